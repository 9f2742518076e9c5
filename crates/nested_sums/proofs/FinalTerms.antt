-- The terms of a statement that is multiplied out add up to what its pieces do.
use Rattle.std.specs.Prelude.{◌≡◌, ℕ, ◌<◌, Bool, true, false, not, ◌||◌, ◌&&◌, List, [], ◌∷◌, ◌++◌}
use Rattle.std.specs.Prelude.{length, map, refl}
use Rattle.std.proofs.Common.{◌∙◌, sym, ap, arith}
use Rattle.numbers.specs.Sums.{total_of}
use Rattle.lists.specs.Each.{Each}
use Rattle.lists.proofs.Tests.{both_true}
use Rattle.index_notation.specs.Statement.{IsDistinct, IsNumberedWithSums, numbers_from}
use Rattle.index_notation.specs.declared.syntax.Expr.{Expr}
use Rattle.index_notation.specs.declared.syntax.NestedSum.{NestedSum}
use Rattle.index_notation.specs.declared.syntax.Statement.{Statement}
use Rattle.expr_terms.specs.Nested.{flat}
use Rattle.expr_terms.specs.Points.{with_coordinate, sum_over}
use Rattle.expr_terms.specs.Signs.{signed_value}
use Rattle.expr_terms.specs.Terms.{contains, stands_in, is_own, own_variables}
use Rattle.expr_terms.specs.declared.term.Term.{Term}
use Rattle.expr_terms.proofs.PointLaws.{sum_over_same, sum_over_order, coordinate_other}
use Rattle.nested_sums.specs.Multiplied.{lacking, with_units, with_sums, final_term}
use Rattle.nested_sums.specs.Pieces.{Piece}
use Rattle.nested_sums.proofs.AddedPieces.{contains_append, contradiction, each_of, each_there, distinct_both}
use Rattle.nested_sums.proofs.CutTerms.{term_meaning}
use Rattle.nested_sums.proofs.FreeVariables.{contains_filtered, contains_number, standing_below}
use Rattle.nested_sums.proofs.Leaves.{EachLeaf}
use Rattle.nested_sums.proofs.Meaning.{Meaning, meaning, meaning_local}
use Rattle.nested_sums.proofs.PieceValues.{piece_value, pieces_value, factors_value, sum_over_both}
use Rattle.nested_sums.proofs.Singles.{IsSingle, distinct_filtered, numbers_distinct}
use Rattle.nested_sums.proofs.UnitFactors.{IsUnit, units_value, units_stand}
use Rattle.nested_sums.proofs.Tellings.{Telling, meaning_at}

-- a term, summed over variables
abbrev pub term_total : Meaning → (Term → List ℕ) → (ℕ → ℕ) → Term → ℕ
term_total m own point t = sum_over m.a m.ranges (own t) (λ q. term_meaning m q t) point

module _ (T : Telling) (s : Statement) (sums : List NestedSum) (expr : Expr)
    (numbered : IsNumberedWithSums s) (Q : ℕ → Type 0) (unit : ℕ → ℕ)
    (means : (e : Expr) → EachLeaf Q e → (p : ℕ → ℕ)
    → meaning (meaning_at T (with_sums s sums expr)) p e ≡ meaning (meaning_at T s) p e)
    (stands : (e : Expr) → EachLeaf Q e → (v : ℕ)
    → stands_in (flat (with_sums s sums expr)).accesses v e ≡ stands_in (flat s).accesses v e) where
  abbrev m : Meaning
  m = meaning_at T s

  abbrev m' : Meaning
  m' = meaning_at T (with_sums s sums expr)

  abbrev own' : Term → List ℕ
  own' t = own_variables (flat (with_sums s sums expr)) t

  -- where each variable that is lacking has its unit
  module _ (piece : Piece) (single : IsSingle s Q piece)
      (units : Each (IsUnit m' unit) (lacking (flat s).accesses piece)) where
    abbrev e : Expr
    e = piece.factors

    abbrev lacks : List ℕ
    lacks = lacking (flat s).accesses piece

    abbrev whole : Expr
    whole = with_units unit e lacks

    abbrev own : List ℕ
    own = own' (final_term s unit piece)

    stand_same : (v : ℕ) → stands_in m'.accesses v whole ≡ stands_in (flat s).accesses v e
    stand_same v = units_stand m' unit e lacks units v ∙ stands e single.leaves v

    own_has : (v : ℕ) → contains own v
        ≡ ((stands_in (flat s).accesses v e && not (contains s.left.vars v)) && contains (numbers_from 0 (length s.vars)) v)
    own_has v =
        contains_filtered (is_own (flat (with_sums s sums expr)) whole) (numbers_from 0 (length s.vars)) v
        ∙ ap (λ b. (b && not (contains s.left.vars v)) && contains (numbers_from 0 (length s.vars)) v) (stand_same v)

    lacks_has : (v : ℕ) → contains lacks v ≡ (not (stands_in (flat s).accesses v e) && contains piece.over v)
    lacks_has v = contains_filtered (λ w. not (stands_in (flat s).accesses w e)) piece.over v

    members : (v : ℕ) → contains piece.over v ≡ contains (own ++ lacks) v
    members v = sym (contains_append own lacks v ∙ ap (λ b. b || contains lacks v) (own_has v)
        ∙ ap (λ b. ((stands_in (flat s).accesses v e && not (contains s.left.vars v)) && contains (numbers_from 0 (length s.vars)) v) || b)
        (lacks_has v) ∙ by (stands_in (flat s).accesses v e) refl (contains s.left.vars v) refl (contains piece.over v) refl)
      where
        by : (b : Bool) → stands_in (flat s).accesses v e ≡ b → (d : Bool) → contains s.left.vars v ≡ d → (c : Bool)
            → contains piece.over v ≡ c
            → (((b && not d) && contains (numbers_from 0 (length s.vars)) v) || (not b && c)) ≡ c
        by false f d g c k = refl
        by true f true g true k =
            contradiction (contains s.left.vars v) g (each_of (λ w. contains s.left.vars w ≡ false) piece.over single.left v k)
        by true f true g false k = refl
        by true f false g true k =
            let below : v < length s.vars = standing_below s numbered v e f in
            ap (λ b. b || false) (contains_number 0 (length s.vars) v (omega arith) (omega (arith, below)))
        by true f false g false k = contradiction (contains piece.over v) (single.free v f g) k

    own_distinct : IsDistinct own
    own_distinct =
        distinct_filtered (is_own (flat (with_sums s sums expr)) whole) (numbers_from 0 (length s.vars))
        (numbers_distinct 0 (length s.vars))

    all_distinct : IsDistinct (own ++ lacks)
    all_distinct =
        distinct_both own lacks own_distinct
        (distinct_filtered (λ w. not (stands_in (flat s).accesses w e)) piece.over single.once)
        (each_there (λ v. contains lacks v ≡ false) own
        (λ v there. lacks_has v ∙ by v (stands_in (flat s).accesses v e) refl (sym (own_has v) ∙ there)))
      where
        by : (v : ℕ) (b : Bool) → stands_in (flat s).accesses v e ≡ b
            → ((b && not (contains s.left.vars v)) && contains (numbers_from 0 (length s.vars)) v) ≡ true
            → (not (stands_in (flat s).accesses v e) && contains piece.over v) ≡ false
        by v true f there = ap (λ c. not c && contains piece.over v) f
        by v false f there = cc

    unmoved : (v : ℕ) → contains lacks v ≡ true → (q : ℕ → ℕ) (x : ℕ) → meaning m' (with_coordinate q v x) e ≡ meaning m' q e
    unmoved v there q x =
        meaning_local m' e (with_coordinate q v x) q (λ u h. coordinate_other q v x u (λ same. absurd
        (let here : not (stands_in (flat s).accesses v e) ≡ true =
        (both_true (not (stands_in (flat s).accesses v e)) (contains piece.over v) (sym (lacks_has v) ∙ there)).0 in
        let stand : stands_in (flat s).accesses v e ≡ true =
        sym (stands e single.leaves v) ∙ ap (λ w. stands_in m'.accesses w e) same ∙ h in
        let none : not true ≡ true = sym (ap not stand) ∙ here in cc)))

    pub final_value : (point : ℕ → ℕ) → term_total m' own' point (final_term s unit piece) ≡ piece_value m point piece
    final_value point =
        sum_over_same T.a T.ranges own (λ q. signed_value T.a piece.negated (meaning m' q whole))
        (sum_over T.a T.ranges lacks (λ r. signed_value T.a piece.negated (meaning m' r e)))
        (λ q. sym (units_value m' unit piece.negated e lacks units unmoved q)) point
        ∙ sym (sum_over_both T.a T.ranges own lacks (λ r. signed_value T.a piece.negated (meaning m' r e)) point)
        ∙ sym (sum_over_order T.a T.laws T.ranges (λ r. signed_value T.a piece.negated (meaning m' r e)) piece.over
        (own ++ lacks) single.once
        all_distinct members point)
        ∙ sum_over_same T.a T.ranges piece.over (λ r. signed_value T.a piece.negated (meaning m' r e)) (factors_value m piece)
        (λ r. ap (signed_value T.a piece.negated) (means e single.leaves r)) point

  pub finals_value : (ps : List Piece) → Each (IsSingle s Q) ps
      → Each (λ (piece : Piece). Each (IsUnit m' unit) (lacking (flat s).accesses piece)) ps → (point : ℕ → ℕ)
      → total_of T.a (map (term_total m' own' point) (map (final_term s unit) ps)) ≡ pieces_value m point ps
  finals_value [] singles units point = refl
  finals_value (piece ∷ ps) singles units point =
      (λ i. T.a.plus (final_value piece singles.0 units.0 point i) (finals_value ps singles.1 units.1 point i))
