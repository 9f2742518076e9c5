-- The sums that were opened have their pieces.
use Rattle.std.specs.Prelude.{◌≡◌, ◌≢◌, ℕ, suc, ◌+◌, Bool, true, false, cond, List, [], ◌∷◌, ◌++◌, Some, slice_get, refl}
use Rattle.std.proofs.Common.{◌∙◌, sym, subst, arith}
use Rattle.numbers.specs.Sums.{sum_below}
use Rattle.lists.specs.Each.{Each}
use Rattle.lists.proofs.Each.{each_append}
use Rattle.index_notation.specs.declared.syntax.Expr.{Access as AccessOf}
use Rattle.index_notation.specs.declared.syntax.NestedSum.{NestedSum}
use Rattle.expr_terms.specs.Minus.{has_minus}
use Rattle.expr_terms.specs.Points.{with_coordinate}
use Rattle.expr_terms.specs.Terms.{stands_in}
use Rattle.nested_sums.specs.Bound.{IsClearSum, bound_in}
use Rattle.nested_sums.specs.Pieces.{Opened, pieces, opened_sum, opened_sums}
use Rattle.nested_sums.proofs.Meaning.{Meaning, meaning}
use Rattle.nested_sums.proofs.PieceValues.{Squares}
use Rattle.nested_sums.proofs.AddedPieces.{ArePiecesOf, IsOpened, pieces_are, summed_are}

module _ (m : Meaning) (bounds : List (List ℕ)) where
  -- a leaf means what a sum does
  pub record IsReadBy (k : ℕ) (sum : NestedSum) : Type 0 where
    pub value : (p : ℕ → ℕ)
        → m.leaf p k ≡ sum_below m.a (m.ranges sum.var) (λ x. meaning m (with_coordinate p sum.var x) sum.inside)
    pub bound : bound_in bounds (AccessOf k) ≡ sum.var ∷ bound_in bounds sum.inside
    pub free : (v : ℕ) → stands_in m.accesses v sum.inside ≡ true → v ≢ sum.var → stands_in m.accesses v (AccessOf k) ≡ true

  -- what is asked of a sum that is opened
  pub record CanBeOpened (sum : NestedSum) : Type 0 where
    pub clear : IsClearSum m.accesses bounds sum
    pub square : has_minus sum.inside ≡ true → Squares m.a

  one_opened : (opened : List Opened) (k : ℕ) (sum : NestedSum) → Each (IsOpened m bounds) opened → IsReadBy k sum → CanBeOpened sum
      → IsOpened m bounds (opened_sum opened k sum)
  one_opened opened k sum each read can =
      let made = summed_are m sum.var (λ p. meaning m p sum.inside) (λ v. stands_in m.accesses v sum.inside)
      (λ v. stands_in m.accesses v (AccessOf k)) (bound_in bounds sum.inside) (pieces opened sum.inside) can.clear.own
      (λ w stands other. read.free w stands other)
      (pieces_are m bounds opened each sum.inside can.clear.sides can.square) in
      let ps = (opened_sum opened k sum).pieces in
      let told : ArePiecesOf m (λ p. m.leaf p k) (λ v. stands_in m.accesses v (AccessOf k)) (sum.var ∷ bound_in bounds sum.inside) ps =
      record { adds = λ p. made.adds p ∙ sym (read.value p); each = made.each } in
      subst (λ bs. ArePiecesOf m (λ p. m.leaf p k) (λ v. stands_in m.accesses v (AccessOf k)) bs ps) (sym read.bound) told

  pub all_opened : (is_inner : ℕ → Bool) (count n : ℕ) (opened : List Opened) (sums : List NestedSum) → Each (IsOpened m bounds) opened
      → ((i : ℕ) (sum : NestedSum) → slice_get sums i ≡ Some sum → IsReadBy (count + (n + i)) sum) → Each CanBeOpened sums
      → Each (IsOpened m bounds) (opened_sums is_inner count n opened sums)
  all_opened is_inner count n opened [] each reads can = each
  all_opened is_inner count n opened (sum ∷ sums) each reads can =
      all_opened is_inner count (n + 1) (cond (is_inner n) opened (opened ++ (opened_sum opened (count + n) sum ∷ []))) sums
      (by (is_inner n))
      (λ i other at. let there : n + suc i ≡ n + 1 + i = omega arith in
      subst (λ j. IsReadBy (count + j) other) there (reads (suc i) other at)) can.1
    where
      read : IsReadBy (count + n) sum
      read = let here : n + 0 ≡ n = omega arith in subst (λ j. IsReadBy (count + j) sum) here (reads 0 sum refl)

      by : (b : Bool) → Each (IsOpened m bounds) (cond b opened (opened ++ (opened_sum opened (count + n) sum ∷ [])))
      by true = each
      by false = each_append (IsOpened m bounds) opened (opened_sum opened (count + n) sum ∷ []) each
          (one_opened opened (count + n) sum each read can.0, tt)
