-- What loops contribute at a point adds up to the sums of their terms over the variables of the loops around them.
use Rattle.std.specs.Prelude.{◌≡◌, ℕ, zero, suc, Bool, true, false, cond, nat_eq, if◌then◌else◌, List, [], ◌∷◌, ◌++◌, map, refl}
use Rattle.std.specs.Cmp.Lexicographic.{pointwise}
use Rattle.std.proofs.Common.{◌∙◌, sym, ap}
use Rattle.numbers.specs.Arithmetic.{Arithmetic, Laws}
use Rattle.numbers.specs.Sums.{sum_below, total_of}
use Rattle.numbers.proofs.Sums.{sum_same, sum_zeros, sum_plus, total_append}
use Rattle.tensor_map.specs.Entries.{Entry, value_at}
use Rattle.tensor_map.specs.Laws.{same, other}
use Rattle.tensor_map.proofs.Lemmas.{tested, value_here, value_elsewhere, value_append}
use Rattle.index_notation.specs.declared.syntax.Access.{Access}
use Rattle.expr_terms.specs.Points.{with_coordinate, sum_over}
use Rattle.expr_terms.specs.Terms.{term_value}
use Rattle.expr_terms.specs.declared.term.Term.{Term}
use Rattle.expr_terms.specs.Value.{minus, value_of}
use Rattle.workspaces.specs.Presence.{is_present}
use Rattle.workspaces.specs.PresenceLaws.{AreZeroElsewhere}
use Rattle.workspaces.proofs.Absent.{absent_is_zero}
use Rattle.concrete_notation.specs.declared.concrete.Concrete.{Concrete, Add, Forall', Both', Where', Row_of-Concrete}
use Rattle.concrete_notation.specs.declared.concrete.Concrete.{end_of-Concrete, more_of-Concrete}
use Rattle.concrete_notation.specs.Contributions.{Inputs, rows_below, rows_of_term, contributions, contributions_in}
use Rattle.concrete_notation.specs.Nests.{Nest, inside, nests, nests_in, workspaces, workspaces_in}

pub none_of_both : {X : Type 0} (xs ys : List X) → (xs ++ ys) ≡ [] → (xs ≡ []) × (ys ≡ [])
none_of_both [] ys h = (refl, h)
none_of_both (x ∷ xs) ys h = cc

pub map_both : {X Y : Type 0} (f : X → Y) (xs ys : List X) → map f (xs ++ ys) ≡ map f xs ++ map f ys
map_both f [] ys = refl
map_both f (x ∷ xs) ys = ap (λ zs. f x ∷ zs) (map_both f xs ys)

pub map_map : {X Y Z : Type 0} (f : X → Y) (g : Y → Z) (xs : List X) → map g (map f xs) ≡ map (λ x. g (f x)) xs
map_map f g [] = refl
map_map f g (x ∷ xs) = ap (λ zs. g (f x) ∷ zs) (map_map f g xs)

-- a sum of totals is a total of sums
sum_totals : (a : Arithmetic) → Laws a → {X : Type 0} (n : ℕ) (g : ℕ → X → ℕ) (xs : List X)
    → sum_below a n (λ i. total_of a (map (g i) xs)) ≡ total_of a (map (λ x. sum_below a n (λ i. g i x)) xs)
sum_totals a laws n g [] = sum_zeros a laws n
sum_totals a laws n g (x ∷ xs) =
    sum_plus a laws n (λ i. g i x) (λ i. total_of a (map (g i) xs))
    ∙ ap (a.plus (sum_below a n (λ i. g i x))) (sum_totals a laws n g xs)

module _ (a : Arithmetic) (laws : Laws a) (coords : List ℕ) where
  -- the value of a loop's rows is the sum over its range
  value_below : (n : ℕ) (f : ℕ → List Entry) → value_at a (rows_below n f) coords ≡ sum_below a n (λ x. value_at a (f x) coords)
  value_below zero f = refl
  value_below (suc n) f =
      value_append a laws coords (rows_below n f) (f n)
      ∙ ap (λ v. a.plus v (value_at a (f n) coords)) (value_below n f)
      ∙ laws.plus_comm (sum_below a n (λ x. value_at a (f x) coords)) (value_at a (f n) coords)

  module _ (inputs : Inputs) (elsewhere : AreZeroElsewhere a inputs.paths inputs.values) (accesses : List Access) (target : List ℕ) where
    absent_term : (p : ℕ → ℕ) (t : Term) → is_present inputs.paths accesses p t.expr ≡ false
        → term_value a inputs.values accesses p t ≡ a.zero
    absent_term p t absent = by t.negated
      where
        none : value_of a inputs.values accesses p t.expr ≡ a.zero
        none = absent_is_zero a laws inputs.paths inputs.values elsewhere accesses p t.expr absent

        by : (b : Bool) → cond b (minus a (value_of a inputs.values accesses p t.expr)) (value_of a inputs.values accesses p t.expr)
            ≡ a.zero
        by true = ap (minus a) none ∙ laws.times_zero a.minus_one
        by false = none

    -- what a term adds at the coordinates from a point
    abbrev pub share : Term → (ℕ → ℕ) → ℕ
    share t p = cond (pointwise nat_eq (map p target) coords) (term_value a inputs.values accesses p t) a.zero

    -- summed over the loops around it
    abbrev pub nest_sum : (ℕ → ℕ) → Nest → ℕ
    nest_sum point nest = sum_over a inputs.ranges nest.loops (share nest.term) point

    zero_twice : a.zero ≡ a.plus a.zero a.zero
    zero_twice = sym (laws.plus_zero a.zero laws.zero_fits)

    term_adds : (t : Term) (p : ℕ → ℕ) → value_at a (rows_of_term a inputs accesses target p t) coords ≡ a.plus (share t p) a.zero
    term_adds t p = by (is_present inputs.paths accesses p t.expr) refl
      where
        value : ℕ
        value = term_value a inputs.values accesses p t

        row : Entry
        row = record { coords = map p target; value = term_value a inputs.values accesses p t }

        by : (b : Bool) → is_present inputs.paths accesses p t.expr ≡ b
            → value_at a (if b then
            (record { coords = map p target; value = term_value a inputs.values accesses p t } ∷ []) else []) coords
            ≡ a.plus (share t p) a.zero
        by true present = elim (tested (map p target) coords) [
          | same is e ↦ value_here a coords (record { coords = map p target; value = term_value a inputs.values accesses p t }) [] e
              ∙ ap (λ b. a.plus (cond b (term_value a inputs.values accesses p t) a.zero) a.zero) (sym e)
          | other is e ↦ value_elsewhere a coords
              (record { coords = map p target; value = term_value a inputs.values accesses p t }) [] e ∙ zero_twice
              ∙ ap (λ b. a.plus (cond b (term_value a inputs.values accesses p t) a.zero) a.zero) (sym e)
        ]
        by false absent = zero_twice ∙ ap (λ z. a.plus z a.zero) (none (pointwise nat_eq (map p target) coords))
          where
            none : (b : Bool) → a.zero ≡ cond b (term_value a inputs.values accesses p t) a.zero
            none true = sym (absent_term p t absent)
            none false = refl

    mutual
      pub loops_add : (c : Concrete) → workspaces c ≡ [] → (point : ℕ → ℕ)
          → value_at a (contributions a inputs accesses target c point) coords ≡ total_of a (map (nest_sum point) (nests c))
      loops_add (Add t) plain point = term_adds t point
      loops_add (Forall' v p body) plain point =
          value_below (inputs.ranges v) (λ x. contributions_in a inputs accesses target body (with_coordinate point v x))
          ∙ sum_same a (inputs.ranges v)
          (λ x. value_at a (contributions_in a inputs accesses target body (with_coordinate point v x)) coords)
          (λ x. total_of a (map (nest_sum (with_coordinate point v x)) (nests_in body)))
          (λ x h. inside_adds body plain (with_coordinate point v x))
          ∙ sum_totals a laws (inputs.ranges v) (λ x. nest_sum (with_coordinate point v x)) (nests_in body)
          ∙ ap (total_of a) (sym (map_map (inside v) (nest_sum point) (nests_in body)))
      loops_add (Both' p first q second) plain point =
          let parts = none_of_both (workspaces_in first) (workspaces_in second) plain in
          value_append a laws coords (contributions_in a inputs accesses target first point)
          (contributions_in a inputs accesses target second point)
          ∙ ap (λ x. a.plus x (value_at a (contributions_in a inputs accesses target second point) coords))
          (inside_adds first parts.0 point)
          ∙ ap (a.plus (total_of a (map (nest_sum point) (nests_in first)))) (inside_adds second parts.1 point)
          ∙ sym (total_append a laws (map (nest_sum point) (nests_in first)) (map (nest_sum point) (nests_in second)))
          ∙ ap (total_of a) (sym (map_both (nest_sum point) (nests_in first) (nests_in second)))
      loops_add (Where' keys p body) plain point = cc

      inside_adds : {m : _} (c : Row_of-Concrete m) → workspaces_in c ≡ [] → (point : ℕ → ℕ)
          → value_at a (contributions_in a inputs accesses target c point) coords ≡ total_of a (map (nest_sum point) (nests_in c))
      inside_adds end_of-Concrete plain point = refl
      inside_adds (more_of-Concrete c rest) plain point = loops_add c plain point
