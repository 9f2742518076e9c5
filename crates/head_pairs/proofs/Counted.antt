-- As many rows have a front as there are pairs at that head, whatever loops add them.
use Rattle.std.specs.Prelude.{◌≡◌, ℕ, zero, suc, ◌+◌, nat_eq, ◌&&◌, Bool, true, false, cond, if◌then◌else◌}
use Rattle.std.specs.Prelude.{List, [], ◌∷◌, ◌++◌, length, map, take, refl}
use Rattle.std.specs.Cmp.Lexicographic.{pointwise}
use Rattle.std.specs.List.{count_by, sum_by}
use Rattle.std.proofs.Common.{◌∙◌, sym, ap, arith}
use Rattle.std.proofs.lemmas.Bool.{eq-eqb}
use Rattle.std.proofs.lemmas.List.{take-map}
use Rattle.std.proofs.lemmas.List.Sorted.{sum_by-IsPermutation}
use Rattle.std.proofs.lemmas.List.Sums.{sum_by-cons, sum_by-append}
use denote.Hole.Carrier.{hidden}
use Rattle.numbers.specs.Arithmetic.{Arithmetic}
use Rattle.tensor_map.specs.Entries.{Entry}
use Rattle.index_notation.specs.declared.syntax.Access.{Access}
use Rattle.expr_terms.specs.Points.{with_coordinate}
use Rattle.expr_terms.specs.Terms.{terms, term_value}
use Rattle.workspaces.specs.Presence.{is_present}
use Rattle.concrete_notation.specs.declared.concrete.Concrete.{Concrete, Add, Forall', Both', Where', Row_of-Concrete}
use Rattle.concrete_notation.specs.declared.concrete.Concrete.{end_of-Concrete, more_of-Concrete}
use Rattle.concrete_notation.specs.declared.concrete.Concrete.TheBlock.{hidden-the_row-Concrete-0}
use Rattle.concrete_notation.specs.Contributions.{Inputs, rows_below}
use Rattle.concrete_notation.specs.Contributions as concrete
use Rattle.concrete_notation.specs.Nests.{inside, nests, nests_in, nest_of, workspaces, workspaces_in}
use Rattle.concrete_notation.proofs.LoopSums.{none_of_both}
use Rattle.loop_code.specs.Turns.{count_below}
use Rattle.lowering.specs.Lowered.{plain, plain_in}
use Rattle.lowering.specs.Right.{one_if}
use Rattle.lowering.proofs.RightLoops.{same_nests}
use Rattle.summed_groups.specs.Groups.{with_front, with_fronts}
use Rattle.head_pairs.specs.Heads.{FrontsAreCounted, GroupsAreFew, has_front, is_at_head, pairs_of_at}
use Rattle.lowering.proofs.Counts.{count_same}
use Rattle.head_pairs.proofs.Sums.{count_sums, sum_mapped}

-- without workspaces there is none
mutual
  unfolding hidden-the_row-Concrete-0 hidden

  none_left : (c : Concrete) → workspaces (plain c) ≡ []
  none_left (Add t) = refl
  none_left (Forall' v p body) = none_left_in body
  none_left (Both' p f q g) = ap (λ xs. xs ++ workspaces (plain_in g)) (none_left_in f) ∙ none_left_in g
  none_left (Where' keys p body) = none_left_in body

  none_left_in : {m : _} (row : Row_of-Concrete m) → workspaces (plain_in row) ≡ []
  none_left_in end_of-Concrete = refl
  none_left_in (more_of-Concrete c rest) = none_left c

-- how many rows pass a test
module _ (test : Entry → Bool) where
  counted_both : (xs ys : List Entry) → count_by test (xs ++ ys) ≡ count_by test xs + count_by test ys
  counted_both xs ys = sum_by-append (λ row. cond (test row) 1 0) xs ys

  counted_below : (n : ℕ) (f : ℕ → List Entry) → count_by test (rows_below n f) ≡ count_below n (λ x. count_by test (f x))
  counted_below zero f = refl
  counted_below (suc n) f =
      counted_both (rows_below n f) (f n) ∙ ap (λ k. k + count_by test (f n)) (counted_below n f)

module _ (a : Arithmetic) (inputs : Inputs) (accesses : List Access) (target : List ℕ) (n : ℕ) (front : List ℕ) where
  abbrev counted : List Entry → ℕ
  counted rows = count_by (has_front n front) rows

  abbrev at_head : (ℕ → ℕ) → List ℕ → ℕ
  at_head point vars = one_if (is_at_head vars front point)

  one_counted : (b : Bool) → 0 + cond b 1 0 ≡ 0 + one_if b
  one_counted true = refl
  one_counted false = refl

  mutual
    rows_counted : (c : Concrete) → workspaces c ≡ [] → (point : ℕ → ℕ)
        → counted (concrete.contributions a inputs accesses target c point)
        ≡ sum_by (pairs_of_at inputs accesses (take n target) front point) (nests c)
    rows_counted (Add t) none point = by (is_present inputs.paths accesses point t.expr)
      where
        by : (b : Bool) → counted (if b then
            (record { coords = map point target; value = term_value a inputs.values accesses point t } ∷ []) else [])
            ≡ 0 + one_if (b && is_at_head (take n target) front point)
        by true =
            ap (λ (coords : List ℕ). 0 + cond (pointwise nat_eq coords front) 1 0) (take-map point n target)
            ∙ one_counted (is_at_head (take n target) front point)
        by false = refl
    rows_counted (Forall' v p body) none point =
        counted_below (has_front n front) (inputs.ranges v)
        (λ x. concrete.contributions_in a inputs accesses target body (with_coordinate point v x))
        ∙ count_same (inputs.ranges v) (λ x. counted (concrete.contributions_in a inputs accesses target body (with_coordinate point v x)))
        (λ x. sum_by (pairs_of_at inputs accesses (take n target) front (with_coordinate point v x)) (nests_in body))
        (λ x. rows_counted_in body none (with_coordinate point v x))
        ∙ count_sums (inputs.ranges v) (λ x. pairs_of_at inputs accesses (take n target) front (with_coordinate point v x)) (nests_in body)
        ∙ sym (sum_mapped (pairs_of_at inputs accesses (take n target) front point) (inside v) (nests_in body))
    rows_counted (Both' p f q g) none point =
        let parts = none_of_both (workspaces_in f) (workspaces_in g) none in
        counted_both (has_front n front) (concrete.contributions_in a inputs accesses target f point)
        (concrete.contributions_in a inputs accesses target g point)
        ∙ ap (λ k. k + counted (concrete.contributions_in a inputs accesses target g point)) (rows_counted_in f parts.0 point)
        ∙ ap (λ k. sum_by (pairs_of_at inputs accesses (take n target) front point) (nests_in f) + k) (rows_counted_in g parts.1 point)
        ∙ sym (sum_by-append (pairs_of_at inputs accesses (take n target) front point) (nests_in f) (nests_in g))
    rows_counted (Where' keys p body) none point = cc

    rows_counted_in : {m : _} (row : Row_of-Concrete m) → workspaces_in row ≡ [] → (point : ℕ → ℕ)
        → counted (concrete.contributions_in a inputs accesses target row point)
        ≡ sum_by (pairs_of_at inputs accesses (take n target) front point) (nests_in row)
    rows_counted_in end_of-Concrete none point = refl
    rows_counted_in (more_of-Concrete c rest) none point = rows_counted c none point

pub fronts_are_counted : FrontsAreCounted
fronts_are_counted s formats c in_order loops adds a laws inputs stored held target n front =
    ap (count_by (has_front n front)) (adds a laws inputs stored held target)
    ∙ rows_counted a inputs s.accesses target n front (plain c) (none_left c) (λ v. 0)
    ∙ ap (sum_by (pairs_of_at inputs s.accesses (take n target) front (λ v. 0))) (same_nests c)
    ∙ sum_by-IsPermutation (pairs_of_at inputs s.accesses (take n target) front (λ v. 0)) (map (nest_of s in_order.order) (terms s.expr))
    (nests c) in_order.terms
    ∙ sum_mapped (pairs_of_at inputs s.accesses (take n target) front (λ v. 0)) (nest_of s in_order.order) (terms s.expr)

-- ---- rows with a front
front_first : (front coords : List ℕ) → pointwise nat_eq (take (length front) (front ++ coords)) front ≡ true
front_first [] coords = refl
front_first (x ∷ front) coords =
    ap (λ b. b && pointwise nat_eq (take (length front) (front ++ coords)) front) (eq-eqb x x refl) ∙ front_first front coords

all_counted : (front : List ℕ) (group : List Entry) → count_by (has_front (length front) front) (with_fronts front group) ≡ length group
all_counted front [] = refl
all_counted front (row ∷ group) =
    let test : Entry → ℕ = λ other. cond (has_front (length front) front other) 1 0 in
    let first = sum_by-cons test (with_front front row) (with_fronts front group) in
    let one : test (with_front front row) ≡ 1 = ap {B = ℕ} (λ (b : Bool). cond b 1 0) (front_first front row.coords) in
    let rest = all_counted front group in
    omega (arith, first, one, rest)

pub groups_are_few : GroupsAreFew
groups_are_few s formats c in_order loops adds a laws inputs stored held target front before group rest is =
    let test : Entry → Bool = has_front (length front) front in
    let all = fronts_are_counted s formats c in_order loops adds a laws inputs stored held target (length front) front in
    let whole = ap (count_by test) is in
    let parts = counted_both test before (with_fronts front group ++ rest) in
    let later = counted_both test (with_fronts front group) rest in
    let own = all_counted front group in
    omega (arith, all, whole, parts, later, own)
