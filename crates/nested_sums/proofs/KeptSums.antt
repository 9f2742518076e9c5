-- The sums of a statement that is multiplied out: inner ones stay, and there is a unit for each variable that a piece lacks.
use Rattle.std.specs.Prelude.{◌≡◌, ℕ, zero, suc, ◌+◌, ◌<◌, Bool, true, false, not, ◌||◌, ◌&&◌, nat_eq, cond, List, [], ◌∷◌, ◌++◌}
use Rattle.std.specs.Prelude.{length, map, Some, slice_get, refl}
use Rattle.std.specs.List.{list_any}
use Rattle.std.proofs.Common.{◌∙◌, ap, subst, arith}
use Rattle.std.proofs.Math.Bool.{or-true}
use Rattle.std.proofs.lemmas.Bool.{eqb-true, eq-eqb}
use Rattle.std.proofs.lemmas.List.Folds.{list_any-append}
use Rattle.lists.specs.Each.{Each}
use Rattle.lists.proofs.Tests.{both_true}
use Rattle.index_notation.specs.Statement.{AreSums, numbers_from}
use Rattle.index_notation.specs.declared.syntax.Access.{Access}
use Rattle.index_notation.specs.declared.syntax.Expr.{Expr, Num, Access as AccessOf, Binary', Neg'}
use Rattle.index_notation.specs.declared.syntax.NestedSum.{NestedSum}
use Rattle.expr_terms.specs.Terms.{contains}
use Rattle.nested_sums.specs.Multiplied.{is_number, is_unit, unit_sum, kept_sums, lacking, missing, place_of_unit}
use Rattle.nested_sums.specs.Pieces.{Piece}
use Rattle.nested_sums.proofs.FreeVariables.{contains_filtered, contains_number}
use Rattle.nested_sums.proofs.Told.{get_first}

number_is : (n : ℕ) (e : Expr) → is_number n e ≡ true → e ≡ Num n
number_is n (Num k) h = ap Num (eqb-true k n h)
number_is n (AccessOf k) h = cc
number_is n (Binary' o p e q f) h = cc
number_is n (Neg' p e) h = cc

module _ (one : ℕ) (v : ℕ) where
  unit_is : (sum : NestedSum) → is_unit one v sum ≡ true → sum ≡ unit_sum one v
  unit_is sum h =
      let both = both_true (nat_eq sum.var v) (is_number one sum.inside) h in
      let var : sum.var ≡ v = eqb-true sum.var v both.0 in
      let inside : sum.inside ≡ Num one = number_is one sum.inside both.1 in
      λ i. record { var = var i; inside = inside i }

  -- the place of a unit
  pub unit_found : (sums : List NestedSum) → list_any (is_unit one v) sums ≡ true
      → slice_get sums (place_of_unit one v sums) ≡ Some (unit_sum one v)
  unit_found [] h = cc
  unit_found (sum ∷ sums) h = by (is_unit one v sum) refl h (unit_found sums)
    where
      by : (b : Bool) → is_unit one v sum ≡ b → (b || list_any (is_unit one v) sums) ≡ true
          → (list_any (is_unit one v) sums ≡ true → slice_get sums (place_of_unit one v sums) ≡ Some (unit_sum one v))
          → slice_get (sum ∷ sums) (cond b 0 (suc (place_of_unit one v sums))) ≡ Some (unit_sum one v)
      by true e k rest = ap Some (unit_is sum e)
      by false e k rest = rest k

  unit_itself : is_unit one v (unit_sum one v) ≡ true
  unit_itself = ap (λ b. b && nat_eq one one) (eq-eqb v v refl) ∙ eq-eqb one one refl

  any_mapped : (vs : List ℕ) → contains vs v ≡ true → list_any (is_unit one v) (map (unit_sum one) vs) ≡ true
  any_mapped [] h = cc
  any_mapped (w ∷ vs) h = by (nat_eq w v) refl h (any_mapped vs)
    where
      by : (b : Bool) → nat_eq w v ≡ b → (b || contains vs v) ≡ true
          → (contains vs v ≡ true → list_any (is_unit one v) (map (unit_sum one) vs) ≡ true)
          → (is_unit one v (unit_sum one w) || list_any (is_unit one v) (map (unit_sum one) vs)) ≡ true
      by true e k rest =
          ap (λ b. b || list_any (is_unit one v) (map (unit_sum one) vs))
          (ap (λ u. is_unit one v (unit_sum one u)) (eqb-true w v e) ∙ unit_itself)
      by false e k rest =
          ap (λ b. is_unit one v (unit_sum one w) || b) (rest k) ∙ or-true (is_unit one v (unit_sum one w))

  -- there is one for each variable that a piece lacks
  pub unit_is_there : (vars : ℕ) (accesses : List Access) (kept : List NestedSum) (ps : List Piece) → v < vars
      → list_any (λ (piece : Piece). contains (lacking accesses piece) v) ps ≡ true
      → list_any (is_unit one v) (kept ++ map (unit_sum one) (missing vars accesses one kept ps)) ≡ true
  unit_is_there vars accesses kept ps below lacks =
      list_any-append (is_unit one v) kept (map (unit_sum one) (missing vars accesses one kept ps))
      ∙ by (list_any (is_unit one v) kept) refl
    where
      test : ℕ → Bool
      test w = list_any (λ (piece : Piece). contains (lacking accesses piece) w) ps && not (list_any (is_unit one w) kept)

      by : (b : Bool) → list_any (is_unit one v) kept ≡ b
          → (b || list_any (is_unit one v) (map (unit_sum one) (missing vars accesses one kept ps))) ≡ true
      by true e = refl
      by false e =
          any_mapped (missing vars accesses one kept ps)
          (contains_filtered test (numbers_from 0 vars) v
          ∙ ap (λ b. (b && not (list_any (is_unit one v) kept)) && contains (numbers_from 0 vars) v) lacks
          ∙ ap (λ b. (true && not b) && contains (numbers_from 0 vars) v) e
          ∙ contains_number 0 vars v (omega arith) (omega (arith, below)))

module _ (is_inner : ℕ → Bool) (one : ℕ) where
  pub kept_long : (n : ℕ) (sums : List NestedSum) → length (kept_sums is_inner one n sums) ≡ length sums
  kept_long n [] = refl
  kept_long n (sum ∷ sums) = ap suc (kept_long (n + 1) sums)

  kept_there : (n : ℕ) (sums : List NestedSum) (i : ℕ) (sum : NestedSum) → slice_get sums i ≡ Some sum → is_inner (n + i) ≡ true
      → slice_get (kept_sums is_inner one n sums) i ≡ Some sum
  kept_there n [] i sum at inner = cc
  kept_there n (first ∷ sums) zero sum at inner =
      let same : first ≡ sum = cc in
      let here : n ≡ n + 0 = omega arith in
      ap (λ b. Some (cond b first (unit_sum one first.var))) (ap is_inner here ∙ inner) ∙ ap Some same
  kept_there n (first ∷ sums) (suc i) sum at inner =
      let there : n + 1 + i ≡ n + suc i = omega arith in
      kept_there (n + 1) sums i sum at (ap is_inner there ∙ inner)

  -- inner sums keep their places
  pub kept_first : (sums more : List NestedSum) (i : ℕ) (sum : NestedSum) → slice_get sums i ≡ Some sum → is_inner i ≡ true
      → slice_get (kept_sums is_inner one 0 sums ++ more) i ≡ Some sum
  kept_first sums more i sum at inner =
      let long = kept_long 0 sums in
      let here : 0 + i ≡ i = omega arith in
      let within = within_is sums i sum at in
      get_first (kept_sums is_inner one 0 sums) more i (omega (arith, long, within))
      ∙ kept_there 0 sums i sum at (ap is_inner here ∙ inner)
    where
      within_is : (xs : List NestedSum) (k : ℕ) (x : NestedSum) → slice_get xs k ≡ Some x → k < length xs
      within_is [] k x h = cc
      within_is (y ∷ xs) zero x h = omega arith
      within_is (y ∷ xs) (suc k) x h = let rest = within_is xs k x h in omega (arith, rest)

  kept_are : (vars count n : ℕ) (sums : List NestedSum) → AreSums vars count sums → AreSums vars count (kept_sums is_inner one n sums)
  kept_are vars count n [] h = tt
  kept_are vars count n (sum ∷ sums) h = by (is_inner n) (kept_are vars (count + 1) (n + 1) sums h.2)
    where
      by : (b : Bool) → AreSums vars (count + 1) (kept_sums is_inner one (n + 1) sums)
          → AreSums vars count (cond b sum (unit_sum one sum.var) ∷ kept_sums is_inner one (n + 1) sums)
      by true rest = (h.0, h.1, rest)
      by false rest = (h.0, tt, rest)

  units_are : (vars count : ℕ) (vs : List ℕ) → Each (λ v. v < vars) vs → AreSums vars count (map (unit_sum one) vs)
  units_are vars count [] h = tt
  units_are vars count (v ∷ vs) h = (h.0, tt, units_are vars (count + 1) vs h.1)

  are_both : (vars count : ℕ) (xs ys : List NestedSum) → AreSums vars count xs → AreSums vars (count + length xs) ys
      → AreSums vars count (xs ++ ys)
  are_both vars count [] ys h g = let none : count + 0 ≡ count = omega arith in subst (λ n. AreSums vars n ys) none g
  are_both vars count (x ∷ xs) ys h g =
      let more : count + suc (length xs) ≡ count + 1 + length xs = omega arith in
      (h.0, h.1, are_both vars (count + 1) xs ys h.2 (subst (λ n. AreSums vars n ys) more g))

  pub all_are : (vars count : ℕ) (sums : List NestedSum) (vs : List ℕ) → AreSums vars count sums → Each (λ v. v < vars) vs
      → AreSums vars count (kept_sums is_inner one 0 sums ++ map (unit_sum one) vs)
  all_are vars count sums vs h g =
      are_both vars count (kept_sums is_inner one 0 sums) (map (unit_sum one) vs) (kept_are vars count 0 sums h)
      (units_are vars (count + length (kept_sums is_inner one 0 sums)) vs g)
