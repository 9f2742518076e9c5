-- Loops that add the rows of a concrete statement are right, and add as many rows as there are pairs.
use Rattle.std.specs.Prelude.{◌≡◌, ◌↔◌, ℕ, zero, suc, ◌+◌, Bool, true, false, if◌then◌else◌, List, [], ◌∷◌, ◌++◌, length, map, refl}
use Rattle.std.specs.List.{sum_by}
use Rattle.std.specs.List.Sorted.{IsPermutation}
use Rattle.std.proofs.Common.{◌∙◌, sym, ap, subst, arith}
use Rattle.std.proofs.lemmas.List.Sorted.{sum_by-IsPermutation}
use Rattle.std.proofs.lemmas.List.Sums.{sum_by-cons, sum_by-append}
use denote.Hole.Carrier.{hidden}
use Rattle.numbers.specs.Arithmetic.{Arithmetic, Laws}
use Rattle.tensor_map.specs.Entries.{Entry, value_at, Listed}
use Rattle.format_spec.specs.declared.format.FormatLevel.{FormatLevel}
use Rattle.index_notation.specs.Statement.{IsNumbered, IsWellNamed}
use Rattle.index_notation.specs.declared.syntax.Access.{Access}
use Rattle.index_notation.specs.declared.syntax.Statement.{Statement}
use Rattle.expr_terms.specs.Points.{with_coordinate}
use Rattle.expr_terms.specs.Terms.{terms, term_value}
use Rattle.expr_terms.specs.declared.term.Term.{Term}
use Rattle.workspaces.specs.Presence.{is_present}
use Rattle.iteration_graph.specs.Edges.{statement_edges}
use Rattle.concrete_notation.specs.declared.concrete.Concrete.{Concrete, map-Concrete, Add, Forall, Both, Where, Forall', Both', Where'}
use Rattle.concrete_notation.specs.declared.concrete.Concrete.{Row_of-Concrete, end_of-Concrete, more_of-Concrete}
use Rattle.concrete_notation.specs.declared.concrete.Concrete.TheVariants.{rolls-Add, rolls-Forall, rolls-Both, rolls-Where}
use Rattle.concrete_notation.specs.declared.concrete.Concrete.TheBlock.{hidden-the_row-Concrete-0}
use Rattle.concrete_notation.specs.declared.concrete.Concrete.TheFolds.{ind-Concrete}
use Rattle.concrete_notation.specs.declared.concrete.Concrete.TheViews.{roll-Concrete}
use Rattle.concrete_notation.specs.declared.concrete.Concrete.TheOpen as view
use Rattle.concrete_notation.specs.Contributions.{Inputs, rows_below, passed_on, sums_of}
use Rattle.concrete_notation.specs.Contributions as concrete
use Rattle.concrete_notation.specs.Nests.{inside, nests, nests_in, nest_of, workspaces, workspaces_in, HasTerms}
use Rattle.concrete_notation.specs.Right.{IsInSupport}
use Rattle.concrete_notation.proofs.LoopSums.{none_of_both}
use Rattle.concrete_notation.proofs.Orders.{is_order_of}
use Rattle.concrete_notation.proofs.Right.{plain_is_right}
use Rattle.concrete_notation.proofs.Through.{keyed_is_right}
use Rattle.concrete_notation.proofs.Trees.{nests_forall, nests_both, nests_where}
use Rattle.loop_code.specs.declared.loops.LoopCode.{LoopCode}
use Rattle.loop_code.specs.Loops.{Stored}
use Rattle.loop_code.specs.Turns.{count_below}
use Rattle.loop_code.proofs.Turns.{count_none, count_plus}
use Rattle.lowering.specs.Held.{AreHeld}
use Rattle.lowering.specs.Layouts.{layout_of}
use Rattle.lowering.specs.Lowered.{plain, plain_in, AddsRows, IsInOrder}
use Rattle.lowering.specs.Right.{rows_to, AreRight, one_if, pairs_of, pairs}

-- without workspaces there is none
mutual
  unfolding hidden-the_row-Concrete-0 hidden

  none_left : (c : Concrete) → workspaces (plain c) ≡ []
  none_left (Add t) = refl
  none_left (Forall' v p body) = none_left_in body
  none_left (Both' p f q g) = ap (λ xs. xs ++ workspaces (plain_in g)) (none_left_in f) ∙ none_left_in g
  none_left (Where' keys p body) = none_left_in body

  none_left_in : {m : _} (row : Row_of-Concrete m) → workspaces (plain_in row) ≡ []
  none_left_in end_of-Concrete = refl
  none_left_in (more_of-Concrete c rest) = none_left c

-- and the terms stand in the same loops
plain_forall : (v : ℕ) (body : Concrete) → plain (Forall v body) ≡ Forall v (plain body)
unfolding hidden-the_row-Concrete-0 hidden
plain_forall v body = refl

plain_both : (f g : Concrete) → plain (Both f g) ≡ Both (plain f) (plain g)
unfolding hidden-the_row-Concrete-0 hidden
plain_both f g = refl

plain_where : (keys : List ℕ) (body : Concrete) → plain (Where keys body) ≡ plain body
unfolding hidden-the_row-Concrete-0 hidden
plain_where keys body = refl

abbrev SameNests : Concrete → Type 0
SameNests c = nests (plain c) ≡ nests c

add_same : (t : Term) → SameNests (Add t)
add_same t = refl

layer_same : (y : view.Concrete-F ((c : Concrete) × SameNests c)) → SameNests (roll-Concrete (map-Concrete ((c : Concrete)
    × SameNests c) Concrete (λ c. c.0) y))
layer_same (view.Add t) = subst SameNests (sym (rolls-Add t)) (add_same t)
layer_same (view.Forall v body) =
    subst SameNests (sym (rolls-Forall v body.0))
    (ap nests (plain_forall v body.0) ∙ nests_forall v (plain body.0) ∙ ap (map (inside v)) body.1 ∙ sym (nests_forall v body.0))
layer_same (view.Both f g) =
    subst SameNests (sym (rolls-Both f.0 g.0))
    (ap nests (plain_both f.0 g.0) ∙ nests_both (plain f.0) (plain g.0) ∙ ap (λ ns. ns ++ nests (plain g.0)) f.1
    ∙ ap (λ ns. nests f.0 ++ ns) g.1
    ∙ sym (nests_both f.0 g.0))
layer_same (view.Where keys body) =
    subst SameNests (sym (rolls-Where keys body.0)) (ap nests (plain_where keys body.0) ∙ body.1 ∙ sym (nests_where keys body.0))

pub same_nests : (c : Concrete) → nests (plain c) ≡ nests c
same_nests = ind-Concrete SameNests (λ x y is. subst (λ z. SameNests (roll-Concrete z)) is (layer_same y))

where_rows : (a : Arithmetic) (inputs : Inputs) (accesses : List Access) (target keys : List ℕ) (body : Concrete) (point : ℕ → ℕ)
    → concrete.contributions a inputs accesses target (Where keys body) point
    ≡ map (passed_on target point keys) (sums_of a (concrete.contributions a inputs accesses keys body point))
unfolding hidden-the_row-Concrete-0 hidden
where_rows a inputs accesses target keys body point = refl

module _ (s : Statement) (numbered : IsNumbered s) (formats : List (List FormatLevel)) (c : Concrete)
    (in_order : IsInOrder s formats c) where
  has_terms : HasTerms s in_order.order (plain c)
  has_terms = subst (IsPermutation (map (nest_of s in_order.order) (terms s.expr))) (sym (same_nests c)) in_order.terms

  pub are_right : IsWellNamed s → (loops : LoopCode) → AddsRows s formats c loops → AreRight s formats loops
  are_right named loops adds = record {
    added = λ a laws inputs stored held elsewhere.
        let right = plain_is_right s numbered named in_order.order (is_order_of _
        (statement_edges s formats) in_order.order in_order.is_order) (plain c)
        (none_left c) has_terms in
        let rows = adds a laws inputs stored held s.left.vars in
        record {
          values = λ coords below. ap (λ rs. value_at a rs coords) rows ∙ right.values a laws inputs elsewhere coords below;
          support = λ coords. subst (λ rs. Listed rs coords ↔ IsInSupport s inputs coords) (sym rows) (right.support a inputs coords);
        };
    summed = λ a laws inputs stored held elsewhere keys are.
        let right = keyed_is_right s numbered named in_order.order (is_order_of _
        (statement_edges s formats) in_order.order in_order.is_order) keys are.once
        are.left (plain c) (none_left c) has_terms in
        let rows = ap (λ rs. map (passed_on s.left.vars (λ v. 0) keys) (sums_of a rs)) (adds a laws inputs stored held keys)
        ∙ sym (where_rows a inputs s.accesses s.left.vars keys (plain c) (λ v. 0)) in
        record {
          values = λ coords below. ap (λ rs. value_at a rs coords) rows ∙ right.values a laws inputs elsewhere coords below;
          support = λ coords. subst (λ rs. Listed rs coords ↔ IsInSupport s inputs coords) (sym rows) (right.support a inputs coords);
        };
  }

length_both : (xs ys : List Entry) → length (xs ++ ys) ≡ length xs + length ys
length_both [] ys = omega arith
length_both (x ∷ xs) ys = let more = length_both xs ys in omega (arith, more)

length_below : (n : ℕ) (f : ℕ → List Entry) → length (rows_below n f) ≡ count_below n (λ x. length (f x))
length_below zero f = refl
length_below (suc n) f = length_both (rows_below n f) (f n) ∙ ap (λ k. k + length (f n)) (length_below n f)

count_same : (n : ℕ) (f g : ℕ → ℕ) → ((x : ℕ) → f x ≡ g x) → count_below n f ≡ count_below n g
count_same zero f g h = refl
count_same (suc n) f g h = ap (λ k. k + f n) (count_same n f g h) ∙ ap (λ k. count_below n g + k) (h n)

sum_mapped : {X Y : Type 0} (f : Y → ℕ) (g : X → Y) (xs : List X) → sum_by f (map g xs) ≡ sum_by (λ x. f (g x)) xs
sum_mapped f g [] = refl
sum_mapped f g (x ∷ xs) =
    sum_by-cons f (g x) (map g xs) ∙ ap (λ k. f (g x) + k) (sum_mapped f g xs) ∙ sym (sum_by-cons (λ y. f (g y)) x xs)

count_sums : {X : Type 0} (n : ℕ) (g : ℕ → X → ℕ) (xs : List X)
    → count_below n (λ i. sum_by (g i) xs) ≡ sum_by (λ x. count_below n (λ i. g i x)) xs
count_sums n g [] = count_none n
count_sums n g (x ∷ xs) =
    count_same n (λ i. sum_by (g i) (x ∷ xs)) (λ i. g i x + sum_by (g i) xs) (λ i. sum_by-cons (g i) x xs)
    ∙ count_plus n (λ i. g i x) (λ i. sum_by (g i) xs) ∙ ap (λ k. count_below n (λ i. g i x) + k) (count_sums n g xs)
    ∙ sym (sum_by-cons (λ y. count_below n (λ i. g i y)) x xs)

module _ (a : Arithmetic) (inputs : Inputs) (accesses : List Access) (target : List ℕ) where
  mutual
    rows_counted : (c : Concrete) → workspaces c ≡ [] → (point : ℕ → ℕ)
        → length (concrete.contributions a inputs accesses target c point) ≡ sum_by (pairs_of inputs accesses point) (nests c)
    rows_counted (Add t) none point = by (is_present inputs.paths accesses point t.expr)
      where
        by : (b : Bool) → length {A = Entry} (if b then
            (record { coords = map point target; value = term_value a inputs.values accesses point t } ∷ []) else [])
            ≡ 0 + one_if b
        by true = refl
        by false = refl
    rows_counted (Forall' v p body) none point =
        length_below (inputs.ranges v) (λ x. concrete.contributions_in a inputs accesses target body (with_coordinate point v x))
        ∙ count_same (inputs.ranges v) (λ x. length (concrete.contributions_in a inputs accesses target body (with_coordinate point v x)))
        (λ x. sum_by (pairs_of inputs accesses (with_coordinate point v x)) (nests_in body))
        (λ x. rows_counted_in body none (with_coordinate point v x))
        ∙ count_sums (inputs.ranges v) (λ x. pairs_of inputs accesses (with_coordinate point v x)) (nests_in body)
        ∙ sym (sum_mapped (pairs_of inputs accesses point) (inside v) (nests_in body))
    rows_counted (Both' p f q g) none point =
        let parts = none_of_both (workspaces_in f) (workspaces_in g) none in
        length_both (concrete.contributions_in a inputs accesses target f point)
        (concrete.contributions_in a inputs accesses target g point)
        ∙ ap (λ k. k + length (concrete.contributions_in a inputs accesses target g point)) (rows_counted_in f parts.0 point)
        ∙ ap (λ k. sum_by (pairs_of inputs accesses point) (nests_in f) + k) (rows_counted_in g parts.1 point)
        ∙ sym (sum_by-append (pairs_of inputs accesses point) (nests_in f) (nests_in g))
    rows_counted (Where' keys p body) none point = cc

    rows_counted_in : {m : _} (row : Row_of-Concrete m) → workspaces_in row ≡ [] → (point : ℕ → ℕ)
        → length (concrete.contributions_in a inputs accesses target row point) ≡ sum_by (pairs_of inputs accesses point) (nests_in row)
    rows_counted_in end_of-Concrete none point = refl
    rows_counted_in (more_of-Concrete c rest) none point = rows_counted c none point

pub rows_are : (s : Statement) (formats : List (List FormatLevel)) (c : Concrete) (in_order : IsInOrder s formats c) (loops : LoopCode)
    → AddsRows s formats c loops → (a : Arithmetic) → Laws a → (inputs : Inputs) (stored : Stored)
    → AreHeld a (layout_of s formats) stored s inputs → (target : List ℕ)
    → length (rows_to a s formats inputs stored target loops) ≡ pairs s in_order.order inputs
rows_are s formats c in_order loops adds a laws inputs stored held target =
    ap length (adds a laws inputs stored held target)
    ∙ rows_counted a inputs s.accesses target (plain c) (none_left c) (λ v. 0)
    ∙ ap (sum_by (pairs_of inputs s.accesses (λ v. 0))) (same_nests c)
    ∙ sum_by-IsPermutation (pairs_of inputs s.accesses (λ v. 0)) (map (nest_of s in_order.order) (terms s.expr)) (nests c) in_order.terms
    ∙ sum_mapped (pairs_of inputs s.accesses (λ v. 0)) (nest_of s in_order.order) (terms s.expr)
