-- A statement that is multiplied out is well formed, and each variable that a piece lacks has its unit.
use Rattle.std.specs.Prelude.{◌≡◌, ℕ, zero, suc, ◌+◌, ◌<◌, ◌≤◌, Bool, true, false, not, ◌||◌, ◌&&◌, if◌then◌else◌, List, [], ◌∷◌, ◌++◌}
use Rattle.std.specs.Prelude.{length, map, Some, slice_get}
use Rattle.std.specs.List.{list_any}
use Rattle.std.proofs.Common.{◌∙◌, ap, arith, length-append}
use Rattle.std.proofs.Math.Bool.{or-true}
use denote.Hole.Carrier.{hidden}
use Rattle.lists.specs.Each.{Each}
use Rattle.index_notation.specs.Statement.{AccessesUnder, IsNumberedWithSums, numbers_from}
use Rattle.index_notation.specs.declared.operator.Operator.{Operator}
use Rattle.index_notation.specs.declared.operator.Operator.TheVariants as op
use Rattle.index_notation.specs.declared.syntax.Expr.{Expr, Access as AccessOf, Binary, Neg}
use Rattle.index_notation.specs.declared.syntax.Expr.TheBlock.{hidden-the_row-Expr-0}
use Rattle.index_notation.specs.declared.syntax.NestedSum.{NestedSum}
use Rattle.index_notation.specs.declared.syntax.Statement.{Statement}
use Rattle.expr_terms.specs.Nested.{flat}
use Rattle.expr_terms.specs.Terms.{contains, stands_in}
use Rattle.expr_terms.specs.declared.term.Term.{Term}
use Rattle.expr_terms.proofs.TermLaws.{each_filtered, each_number}
use Rattle.nested_sums.specs.Inner.{is_inner}
use Rattle.nested_sums.specs.Multiplied.{is_unit, unit_sum, kept_sums, lacking, missing, place_of_unit, with_units, added, sum_of_terms}
use Rattle.nested_sums.specs.Multiplied.{final_term, term_pieces, all_sums, unit_leaf, multiplied_out}
use Rattle.nested_sums.specs.Pieces.{Piece}
use Rattle.nested_sums.proofs.AddedPieces.{each_as, each_of, each_there}
use Rattle.nested_sums.proofs.KeptSums.{unit_found, unit_is_there, all_are, kept_long}
use Rattle.nested_sums.proofs.Leaves.{leaves_under}
use Rattle.nested_sums.proofs.Singles.{IsSingle}
use Rattle.nested_sums.proofs.StatementPieces.{IsLeft}

-- what a piece lacks some piece lacks
each_any : (p : ℕ → Piece → Bool) (ps : List Piece)
    → Each (λ (piece : Piece). (v : ℕ) → p v piece ≡ true → list_any (p v) ps ≡ true) ps
each_any p [] = tt
each_any p (piece ∷ ps) = (
  (λ v h. ap (λ b. b || list_any (p v) ps) h),
  each_as (λ (other : Piece). (v : ℕ) → p v other ≡ true → list_any (p v) ps ≡ true)
      (λ (other : Piece). (v : ℕ) → p v other ≡ true → (p v piece || list_any (p v) ps) ≡ true)
      (λ other k v h. ap (λ b. p v piece || b) (k v h) ∙ or-true (p v piece)) ps (each_any p ps),
)

under_product : (n : ℕ) (o : Operator) (e f : Expr) → AccessesUnder n e → AccessesUnder n f → AccessesUnder n (Binary o e f)
unfolding hidden-the_row-Expr-0 hidden
under_product n o e f h g = (h, g)

under_minus : (n : ℕ) (e : Expr) → AccessesUnder n e → AccessesUnder n (Neg e)
unfolding hidden-the_row-Expr-0 hidden
under_minus n e h = h

module _ (n : ℕ) where
  added_under : (e : Expr) (ts : List Term) → AccessesUnder n e → Each (λ (t : Term). AccessesUnder n t.expr) ts
      → AccessesUnder n (added e ts)
  added_under e [] h each = h
  added_under e (t ∷ ts) h each =
      added_under (Binary (if t.negated then op.Sub else op.Add) e t.expr) ts
      (under_product n (if t.negated then op.Sub else op.Add) e t.expr h each.0) each.1

  sum_under : (ts : List Term) → Each (λ (t : Term). AccessesUnder n t.expr) ts → AccessesUnder n (sum_of_terms ts)
  sum_under [] each = tt
  sum_under (t ∷ ts) each = added_under (if t.negated then Neg t.expr else t.expr) ts (by t.negated) each.1
    where
      by : (b : Bool) → AccessesUnder n (if b then Neg t.expr else t.expr)
      by true = under_minus n t.expr each.0
      by false = each.0

  units_under : (unit : ℕ → ℕ) (e : Expr) (vs : List ℕ) → AccessesUnder n e → Each (λ v. unit v < n) vs
      → AccessesUnder n (with_units unit e vs)
  units_under unit e [] h each = h
  units_under unit e (v ∷ vs) h each =
      under_product n op.Mul (with_units unit e vs) (AccessOf (unit v)) (units_under unit e vs h each.1) each.0

get_within : (xs : List NestedSum) (k : ℕ) (x : NestedSum) → slice_get xs k ≡ Some x → k < length xs
get_within [] k x at = cc
get_within (y ∷ xs) zero x at = omega arith
get_within (y ∷ xs) (suc k) x at = let rest = get_within xs k x at in omega (arith, rest)

module _ (one : ℕ) (s : Statement) (order : List ℕ) (numbered : IsNumberedWithSums s)
    (singles : Each (IsSingle s (IsLeft s order)) (term_pieces s order)) where
  abbrev sums : List NestedSum
  sums = all_sums one s order

  -- each variable that a piece lacks has its unit
  abbrev pub HasUnits : Piece → Type 0
  HasUnits piece = Each (λ v. slice_get sums (place_of_unit one v sums) ≡ Some (unit_sum one v)) (lacking (flat s).accesses piece)

  zip : (ps : List Piece) → Each (IsSingle s (IsLeft s order)) ps
      → Each (λ (piece : Piece). (v : ℕ) → contains (lacking (flat s).accesses piece) v ≡ true
      → list_any (λ (other : Piece). contains (lacking (flat s).accesses other) v) (term_pieces s order) ≡ true) ps
      → Each HasUnits ps
  zip [] h g = tt
  zip (piece ∷ ps) h g = (
    each_there (λ v. slice_get sums (place_of_unit one v sums) ≡ Some (unit_sum one v)) (lacking (flat s).accesses piece)
        (λ v there. unit_found one v sums (unit_is_there one v (length s.vars) (flat s).accesses
        (kept_sums (is_inner s order) one 0 s.sums) (term_pieces s order)
        (each_of (λ w. w < length s.vars) (lacking (flat s).accesses piece)
        (each_filtered (λ w. w < length s.vars) (λ w. not (stands_in (flat s).accesses w piece.factors)) piece.over h.0.below) v there)
        (g.0 v there))),
    zip ps h.1 g.1,
  )

  pub each_has_units : Each HasUnits (term_pieces s order)
  each_has_units =
      zip (term_pieces s order) singles
      (each_any (λ v (piece : Piece). contains (lacking (flat s).accesses piece) v) (term_pieces s order))

  more_sums : length s.sums ≤ length sums
  more_sums =
      let kept : List NestedSum = kept_sums (is_inner s order) one 0 s.sums in
      let vs : List ℕ = missing (length s.vars) (flat s).accesses one kept (term_pieces s order) in
      let long : length kept ≡ length s.sums = kept_long (is_inner s order) one 0 s.sums in
      let both : length (kept ++ map (unit_sum one) vs) ≡ length kept + length (map (unit_sum one) vs) =
      length-append kept (map (unit_sum one) vs) in
      omega (arith, long, both)

  finals_under : (ps : List Piece) → Each (IsSingle s (IsLeft s order)) ps → Each HasUnits ps
      → Each (λ (t : Term). AccessesUnder (length s.accesses + length sums) t.expr) (map (final_term s (unit_leaf one s sums)) ps)
  finals_under [] h g = tt
  finals_under (piece ∷ ps) h g = (
    units_under (length s.accesses + length sums) (unit_leaf one s sums) piece.factors (lacking (flat s).accesses piece)
        (leaves_under (IsLeft s order) (length s.accesses + length sums)
        (λ k left. let below = left.0 in let more = more_sums in omega (arith, below, more)) piece.factors h.0.leaves)
        (each_as (λ v. slice_get sums (place_of_unit one v sums) ≡ Some (unit_sum one v))
        (λ v. unit_leaf one s sums v < length s.accesses + length sums)
        (λ v at. let within = get_within sums (place_of_unit one v sums) (unit_sum one v) at in omega (arith, within))
        (lacking (flat s).accesses piece) g.0),
    finals_under ps h.1 g.1,
  )

  pub multiplied_numbered : IsNumberedWithSums (multiplied_out one s order)
  multiplied_numbered = record {
    left = numbered.left;
    right = numbered.right;
    sums = all_are (is_inner s order) one (length s.vars) (length s.accesses) s.sums
        (missing (length s.vars) (flat s).accesses one (kept_sums (is_inner s order) one 0 s.sums) (term_pieces s order)) numbered.sums
        (each_filtered (λ v. v < length s.vars)
        (λ v. list_any (λ (piece : Piece). contains (lacking (flat s).accesses piece) v) (term_pieces s order)
        && not (list_any (is_unit one v) (kept_sums (is_inner s order) one 0 s.sums)))
        (numbers_from 0 (length s.vars))
        (each_number (λ v. v < length s.vars) 0 (length s.vars) (λ v above below. omega (arith, below))));
    expr = sum_under (length s.accesses + length sums) (map (final_term s (unit_leaf one s sums)) (term_pieces s order))
        (finals_under (term_pieces s order) singles each_has_units);
    variables = numbered.variables;
  }
