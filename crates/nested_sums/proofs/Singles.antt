-- Pieces that are cut from a statement's terms: over what they are summed, and what stands in them.
use Rattle.std.specs.Prelude.{◌≡◌, ◌≢◌, ℕ, zero, suc, ◌+◌, ◌<◌, Bool, true, false, not, cond, ◌&&◌, List, [], ◌∷◌, ◌++◌}
use Rattle.std.specs.Prelude.{length, map, filter, Option, None, Some, slice_get, refl}
use Rattle.std.proofs.Common.{◌∙◌, sym, ap, arith, inl, inr}
use Rattle.lists.specs.Each.{Each}
use Rattle.lists.proofs.Each.{each_append, each_get}
use Rattle.lists.proofs.Tests.{both_true}
use Rattle.index_notation.specs.Statement.{AreSums, IsDistinct, IsNumberedWithSums, numbers_from}
use Rattle.index_notation.specs.declared.syntax.Access.{Access}
use Rattle.index_notation.specs.declared.syntax.Expr.{Expr, Num, Access as AccessOf, Binary', Neg', Row_of-Expr, end_of-Expr, more_of-Expr}
use Rattle.index_notation.specs.declared.syntax.NestedSum.{NestedSum}
use Rattle.index_notation.specs.declared.syntax.Statement.{Statement}
use Rattle.expr_terms.specs.Nested.{flat}
use Rattle.expr_terms.specs.Terms.{terms, plain_term, contains, stands_in, is_own, own_variables}
use Rattle.expr_terms.specs.declared.term.Term.{Term}
use Rattle.expr_terms.proofs.TermLaws.{each_filtered, each_number}
use Rattle.nested_sums.specs.Bound.{list_or_none, bound_in, bound_inside, bound_by, none_bound, bounds, HasNoBadSum}
use Rattle.nested_sums.specs.Multiplied.{cut_piece}
use Rattle.nested_sums.specs.Pieces.{Piece}
use Rattle.nested_sums.specs.Told.{told_with}
use Rattle.nested_sums.proofs.AddedPieces.{IsPieceOf, contradiction, contains_append, or_first}
use Rattle.nested_sums.proofs.AddedPieces.{or_second, each_as, each_of, each_there, distinct_both}
use Rattle.nested_sums.proofs.CutTerms.{IsTermOf}
use Rattle.nested_sums.proofs.FreeVariables.{contains_filtered, contains_number, standing_below}
use Rattle.nested_sums.proofs.Leaves.{EachLeaf}
use Rattle.nested_sums.proofs.Tellings.{Telling, meaning_at}

-- the variables that are bound are among the statement's
module _ (vars : ℕ) where
  abbrev Below : List ℕ → Type 0
  Below vs = Each (λ v. v < vars) vs

  of_option : (o : Option (List ℕ)) → ((vs : List ℕ) → o ≡ Some vs → Below vs) → Below (list_or_none o)
  of_option None all = tt
  of_option (Some vs) all = all vs refl

  module _ (told : List (List ℕ)) (each : Each Below told) where
    mutual
      in_below : (e : Expr) → Below (bound_in told e)
      in_below (Num n) = tt
      in_below (AccessOf k) = of_option (slice_get told k) (λ vs at. each_get Below told k vs each at)
      in_below (Binary' o p e q f) =
          each_append (λ v. v < vars) (bound_inside told e) (bound_inside told f) (inside_below e) (inside_below f)
      in_below (Neg' p e) = inside_below e

      inside_below : {m : _} (e : Row_of-Expr m) → Below (bound_inside told e)
      inside_below end_of-Expr = tt
      inside_below (more_of-Expr e rest) = in_below e

  told_below : (told : List (List ℕ)) (n : ℕ) (sums : List NestedSum) → Each Below told → AreSums vars n sums
      → Each Below (told_with bound_by told sums)
  told_below told n [] each are = each
  told_below told n (sum ∷ sums) each are =
      told_below (told ++ (bound_by told sum ∷ [])) (n + 1) sums
      (each_append Below told (bound_by told sum ∷ []) each ((are.0, in_below told each sum.inside), tt)) are.2

  none_below : (accesses : List Access) → Each Below (map none_bound accesses)
  none_below [] = tt
  none_below (access ∷ accesses) = (tt, none_below accesses)

pub bound_below : (s : Statement) → IsNumberedWithSums s → (e : Expr) → Each (λ v. v < length s.vars) (bound_in (bounds s) e)
bound_below s h e =
    in_below (length s.vars) (bounds s) (told_below (length s.vars) (map none_bound s.accesses) (length s.accesses) s.sums
    (none_below (length s.vars) s.accesses) h.sums) e

pub distinct_filtered : (p : ℕ → Bool) (vs : List ℕ) → IsDistinct vs → IsDistinct (filter p vs)
distinct_filtered p [] distinct = tt
distinct_filtered p (v ∷ vs) distinct = by (p v) (distinct_filtered p vs distinct.1)
  where
    by : (b : Bool) → IsDistinct (filter p vs) → IsDistinct (cond b (v ∷ filter p vs) (filter p vs))
    by true rest = (each_filtered (λ w. v ≢ w) p vs distinct.0, rest)
    by false rest = rest

pub numbers_distinct : (n count : ℕ) → IsDistinct (numbers_from n count)
numbers_distinct n zero = tt
numbers_distinct n (suc count) =
    (each_number (λ w. n ≢ w) (n + 1) count (λ w above below same. absurd (omega (arith, above, same))), numbers_distinct (n + 1) count)

-- a piece that is one term: each variable that stands there is one of the left side's, or one over which it is summed
pub record IsSingle (s : Statement) (Q : ℕ → Type 0) (piece : Piece) : Type 0 where
  pub once : IsDistinct piece.over
  pub free : (v : ℕ) → stands_in (flat s).accesses v piece.factors ≡ true → contains s.left.vars v ≡ false → contains piece.over v ≡ true
  pub left : Each (λ v. contains s.left.vars v ≡ false) piece.over
  pub leaves : EachLeaf Q piece.factors
  pub one : terms piece.factors ≡ plain_term piece.factors ∷ []
  pub below : Each (λ v. v < length s.vars) piece.over

true_only : (b c : Bool) → (b && c) ≡ true → (b ≡ true) × (c ≡ true)
true_only b c h = both_true b c h

module _ (T : Telling) (s : Statement) (numbered : IsNumberedWithSums s)
    (clear : HasNoBadSum s) (Q : ℕ → Type 0) (t : Term)
    (stand : (v : ℕ) → stands_in (flat s).accesses v t.expr ≡ true → stands_in (flat s).accesses v s.expr ≡ true)
    (bind : (v : ℕ) → contains (bound_in (bounds s) t.expr) v ≡ true → contains (bound_in (bounds s) s.expr) v ≡ true) where
  own_is : (v : ℕ) → contains (own_variables (flat s) t) v ≡ true
      → (stands_in (flat s).accesses v t.expr ≡ true) × (contains s.left.vars v ≡ false)
  own_is v there =
      let test = true_only (is_own (flat s) t.expr v) (contains (numbers_from 0 (length s.vars)) v)
      (sym (contains_filtered (is_own (flat s) t.expr) (numbers_from 0 (length s.vars)) v) ∙ there) in
      let both = true_only (stands_in (flat s).accesses v t.expr) (not (contains s.left.vars v)) test.0 in
      (both.0, not_so (contains s.left.vars v) both.1)
    where
      not_so : (b : Bool) → not b ≡ true → b ≡ false
      not_so true h = cc
      not_so false h = refl

  is_one_own : (v : ℕ) → stands_in (flat s).accesses v t.expr ≡ true → contains s.left.vars v ≡ false
      → contains (own_variables (flat s) t) v ≡ true
  is_one_own v stands right =
      let below : v < length s.vars = standing_below s numbered v t.expr stands in
      contains_filtered (is_own (flat s) t.expr) (numbers_from 0 (length s.vars)) v
      ∙ ap (λ b. (b && not (contains s.left.vars v)) && contains (numbers_from 0 (length s.vars)) v) stands
      ∙ ap (λ b. (true && not b) && contains (numbers_from 0 (length s.vars)) v) right
      ∙ contains_number 0 (length s.vars) v (omega arith) (omega (arith, below))

  pub cut_single : (b : Bool) (piece : Piece) (u : Term)
      → IsPieceOf (meaning_at T s) (λ v. stands_in (flat s).accesses v t.expr) (bound_in (bounds s) t.expr) piece
      → IsTermOf (meaning_at T s) (λ v. stands_in (flat s).accesses v piece.factors) u → EachLeaf Q u.expr
      → IsSingle s Q (cut_piece b (own_variables (flat s) t) piece u)
  cut_single b piece u h g leaves =
      let own : List ℕ = own_variables (flat s) t in
      record {
        once = distinct_both own piece.over
            (distinct_filtered (is_own (flat s) t.expr) (numbers_from 0 (length s.vars)) (numbers_distinct 0 (length s.vars))) h.once
            (each_there (λ v. contains piece.over v ≡ false) own (λ v there. apart v (own_is v there).0 (contains piece.over v) refl));
        free = λ v stands right. contains_append own piece.over v ∙ elim (h.free v (g.free v stands)) [
          | inl k ↦ or_first (contains own v) (contains piece.over v) (is_one_own v k right)
          | inr k ↦ or_second (contains own v) (contains piece.over v) k
        ];
        left = each_append (λ v. contains s.left.vars v ≡ false) own piece.over
            (each_there (λ v. contains s.left.vars v ≡ false) own (λ v there. (own_is v there).1))
            (each_as (λ v. contains (bound_in (bounds s) t.expr) v ≡ true) (λ v. contains s.left.vars v ≡ false)
            (λ v there. each_of (λ w. contains s.left.vars w ≡ false) (bound_in (bounds s) s.expr) clear.left v (bind v there))
            piece.over h.over);
        leaves = leaves;
        one = g.one;
        below = each_append (λ v. v < length s.vars) own piece.over
            (each_filtered (λ v. v < length s.vars) (is_own (flat s) t.expr) (numbers_from 0 (length s.vars))
            (each_number (λ v. v < length s.vars) 0 (length s.vars) (λ v above under. omega (arith, under))))
            (each_as (λ v. contains (bound_in (bounds s) t.expr) v ≡ true) (λ v. v < length s.vars)
            (λ v there. each_of (λ w. w < length s.vars) (bound_in (bounds s) t.expr) (bound_below s numbered t.expr) v there)
            piece.over h.over);
      }
    where
      apart : (v : ℕ) → stands_in (flat s).accesses v t.expr ≡ true → (c : Bool) → contains piece.over v ≡ c → c ≡ false
      apart v stands false e = refl
      apart v stands true e =
          let bound = each_of (λ w. contains (bound_in (bounds s) t.expr) w ≡ true) piece.over h.over v e in
          contradiction (stands_in (flat s).accesses v s.expr) (stand v stands)
          (each_of (λ w. stands_in (flat s).accesses w s.expr ≡ false) (bound_in (bounds s) s.expr) clear.free v (bind v bound))
