-- A statement that is multiplied out has the value that it had.
use Rattle.std.specs.Prelude.{◌≡◌, ℕ, ◌+◌, Bool, true, false, cond, if◌then◌else◌, List, [], ◌∷◌, length, map, Some, slice_get}
use Rattle.std.specs.Prelude.{refl}
use Rattle.std.specs.List.{list_all}
use Rattle.std.proofs.Common.{◌∙◌, sym, ap}
use Rattle.numbers.specs.Arithmetic.{Arithmetic, Laws}
use Rattle.numbers.specs.Ring.{ring}
use Rattle.numbers.specs.RingLaws.{ring_laws, ring_minus_laws}
use Rattle.numbers.specs.Sums.{total_of}
use Rattle.numbers.proofs.Sums.{sum_same}
use Rattle.lists.specs.Each.{Each}
use Rattle.index_notation.specs.Statement.{IsNumberedWithSums, numbers_from}
use Rattle.index_notation.specs.declared.operator.Operator.TheVariants as op
use Rattle.index_notation.specs.declared.syntax.Expr.{Expr, Access as AccessOf}
use Rattle.index_notation.specs.declared.syntax.NestedSum.{NestedSum}
use Rattle.index_notation.specs.declared.syntax.Statement.{Statement}
use Rattle.expr_terms.specs.Nested.{flat, flat_values, nested_value}
use Rattle.expr_terms.specs.Points.{point_of}
use Rattle.expr_terms.specs.Signs.{signed_value}
use Rattle.expr_terms.specs.Terms.{terms, plain_term, own_variables, term_value, term_sum}
use Rattle.expr_terms.specs.Value.{value_of, minus}
use Rattle.expr_terms.specs.declared.term.Term.{Term}
use Rattle.expr_terms.proofs.Equations.{terms_binary}
use Rattle.expr_terms.proofs.PointLaws.{sum_over_same}
use Rattle.expr_terms.proofs.TermLaws.{minus_one_square}
use Rattle.nested_sums.specs.Bound.{HasNoBadSum}
use Rattle.nested_sums.specs.Inner.{is_inner}
use Rattle.nested_sums.specs.Multiplied.{unit_sum, kept_sums, lacking, missing}
use Rattle.nested_sums.specs.Multiplied.{place_of_unit, with_units, with_sums, sum_of_terms, final_term}
use Rattle.nested_sums.specs.Multiplied.{term_pieces, all_sums, unit_leaf, multiplied_out, multiplied, KeepsValue, KeepsRest}
use Rattle.nested_sums.specs.Pieces.{Piece, has_minus_with_sums}
use Rattle.nested_sums.proofs.AddedPieces.{each_as}
use Rattle.nested_sums.proofs.CutTerms.{term_meaning}
use Rattle.nested_sums.proofs.FinalTerms.{term_total, finals_value}
use Rattle.nested_sums.proofs.FreeVariables.{stands_in_sum}
use Rattle.nested_sums.proofs.InnerInside.{inner_inside}
use Rattle.nested_sums.proofs.KeptSums.{kept_first}
use Rattle.nested_sums.proofs.Leaves.{EachLeaf, leaves_under, leaves_inner}
use Rattle.nested_sums.proofs.Meaning.{Meaning}
use Rattle.nested_sums.proofs.MultipliedNumbers.{HasUnits, each_has_units, multiplied_numbered}
use Rattle.nested_sums.proofs.MultipliedTerms.{singles, term_pieces_value}
use Rattle.nested_sums.proofs.PieceValues.{Squares}
use Rattle.nested_sums.proofs.SameSums.{IsSame, same_everywhere}
use Rattle.nested_sums.proofs.Singles.{IsSingle}
use Rattle.nested_sums.proofs.SomePieces.{HasSome, some_map, some_opened, some_of_terms, has_parts}
use Rattle.nested_sums.proofs.StatementPieces.{IsLeft, all_opened_sums}
use Rattle.nested_sums.proofs.TermLists.{IsOneTerm, sum_has_terms}
use Rattle.nested_sums.proofs.UnitFactors.{IsUnit}
use Rattle.nested_sums.proofs.Tellings.{Telling, Tells, meaning_at}
use Rattle.nested_sums.proofs.ValueMeaning.{value_telling, value_tells, value_meaning, means_value, sum_over_words, total_of_words}
use Rattle.nested_sums.proofs.Words.{word_of, word_of_minus}

-- the value of a statement with nested sums, term by term
module _ (a : Arithmetic) (laws : Laws a) (s : Statement) (values : ℕ → List ℕ → ℕ) (ranges : ℕ → ℕ) (coords : List ℕ) where
  abbrev whole : Meaning
  whole = value_meaning a laws s values ranges

  word_of_term : (b : Bool) (x : ℕ) → word_of a (cond b (minus a x) x) ≡ signed_value a b (word_of a x)
  word_of_term true x = word_of_minus a laws x
  word_of_term false x = refl

  one_term : (t : Term) → word_of a (term_sum a (flat s) (flat_values a s values ranges) ranges (point_of s.left.vars coords) t)
      ≡ term_total whole (own_variables (flat s)) (point_of s.left.vars coords) t
  one_term t =
      let value = λ (q : ℕ → ℕ). value_of a (flat_values a s values ranges) (flat s).accesses q t.expr in
      sum_over_words a laws ranges (own_variables (flat s) t) (λ q. term_value a (flat_values a s values ranges) (flat s).accesses q t)
      (point_of s.left.vars coords)
      ∙ sum_over_same a ranges (own_variables (flat s) t)
      (λ q. word_of a (term_value a (flat_values a s values ranges) (flat s).accesses q t)) (λ q. term_meaning whole q t)
      (λ q. word_of_term t.negated (value q) ∙ ap (signed_value a t.negated) (sym (means_value a laws s values ranges q t.expr)))
      (point_of s.left.vars coords)

  value_by_terms : nested_value a s values ranges coords
      ≡ total_of a (map (term_total whole (own_variables (flat s)) (point_of s.left.vars coords)) (terms s.expr))
  value_by_terms =
      total_of_words a laws (term_sum a (flat s) (flat_values a s values ranges) ranges (point_of s.left.vars coords))
      (term_total whole (own_variables (flat s)) (point_of s.left.vars coords)) one_term (terms s.expr)

-- the terms of the statement that is multiplied out are those of its pieces
final_is_one : (s : Statement) (Q : ℕ → Type 0) (unit : ℕ → ℕ) (piece : Piece) → IsSingle s Q piece → IsOneTerm (final_term s unit piece)
final_is_one s Q unit piece single = by (lacking (flat s).accesses piece)
  where
    by : (vs : List ℕ) → terms (with_units unit piece.factors vs) ≡ plain_term (with_units unit piece.factors vs) ∷ []
    by [] = single.one
    by (v ∷ vs) = terms_binary op.Mul (with_units unit piece.factors vs) (AccessOf (unit v))

finals_are_one : (s : Statement) (Q : ℕ → Type 0) (unit : ℕ → ℕ) (ps : List Piece) → Each (IsSingle s Q) ps
    → Each IsOneTerm (map (final_term s unit) ps)
finals_are_one s Q unit [] h = tt
finals_are_one s Q unit (piece ∷ ps) h = (final_is_one s Q unit piece h.0, finals_are_one s Q unit ps h.1)

sum_terms : (ts : List Term) → HasSome ts → Each IsOneTerm ts → terms (sum_of_terms ts) ≡ ts
sum_terms [] some each = absurd some
sum_terms (t ∷ ts) some each = sum_has_terms t ts each

some_pieces : (s : Statement) (order : List ℕ) → HasSome (term_pieces s order)
some_pieces s order =
    let opened = some_opened (is_inner s order) (length s.accesses) 0 [] s.sums tt in
    some_of_terms s (all_opened_sums s order) opened (terms s.expr) (has_parts (all_opened_sums s order) opened s.expr).terms_some

-- told in any way in which the unit is a one
module _ (one : ℕ) (s : Statement) (order : List ℕ) (numbered : IsNumberedWithSums s) (clear : HasNoBadSum s) (T : Telling)
    (tells : Tells T) (one_is : T.num one ≡ T.a.one) (square : has_minus_with_sums s ≡ true → Squares T.a) where
  abbrev sums : List NestedSum
  sums = all_sums one s order

  abbrev unit : ℕ → ℕ
  unit = unit_leaf one s sums

  abbrev expr : Expr
  expr = sum_of_terms (map (final_term s unit) (term_pieces s order))

  are_single : Each (IsSingle s (IsLeft s order)) (term_pieces s order)
  are_single = singles s order numbered clear T tells square

  numbered' : IsNumberedWithSums (with_sums s sums expr)
  numbered' = multiplied_numbered one s order numbered are_single

  abbrev m' : Meaning
  m' = meaning_at T (with_sums s sums expr)

  left_same : (e : Expr) → EachLeaf (IsLeft s order) e
      → IsSame T tells s sums expr numbered numbered' (is_inner s order)
      (λ n sum at inner. kept_first (is_inner s order) one s.sums
      (map (unit_sum one) (missing (length s.vars) (flat s).accesses one (kept_sums (is_inner s order) one 0 s.sums) (term_pieces s order)))
      n sum at inner)
      (inner_inside s order numbered) e
  left_same e leaves =
      same_everywhere T tells s sums expr numbered numbered' (is_inner s order)
      (λ n sum at inner. kept_first (is_inner s order) one s.sums
      (map (unit_sum one) (missing (length s.vars) (flat s).accesses one (kept_sums (is_inner s order) one 0 s.sums) (term_pieces s order)))
      n sum at inner)
      (inner_inside s order numbered) e
      (leaves_under (IsLeft s order) (length s.accesses + length s.sums) (λ k h. h.0) e leaves)
      (leaves_inner (IsLeft s order) (is_inner s order) (length s.accesses) (λ k h. h.1) e leaves)

  unit_means : (v : ℕ) → slice_get sums (place_of_unit one v sums) ≡ Some (unit_sum one v) → IsUnit m' unit v
  unit_means v at = record {
    value = λ p. (tells.sums (with_sums s sums expr) numbered' (place_of_unit one v sums) (unit_sum one v) at).value p
        ∙ sum_same T.a (T.ranges v) (λ x. T.num one) (λ x. T.a.one) (λ x h. one_is);
    closed = λ w. stands_in_sum (with_sums s sums expr) numbered' (place_of_unit one v sums) (unit_sum one v) at w;
  }

  have_units : Each (λ (piece : Piece). Each (IsUnit m' unit) (lacking (flat s).accesses piece)) (term_pieces s order)
  have_units =
      each_as (HasUnits one s order numbered are_single) (λ (piece : Piece). Each (IsUnit m' unit) (lacking (flat s).accesses piece))
      (λ piece h. each_as (λ v. slice_get sums (place_of_unit one v sums) ≡ Some (unit_sum one v)) (IsUnit m' unit) unit_means
      (lacking (flat s).accesses piece) h)
      (term_pieces s order) (each_has_units one s order numbered are_single)

  terms_of_it : terms expr ≡ map (final_term s unit) (term_pieces s order)
  terms_of_it =
      sum_terms (map (final_term s unit) (term_pieces s order))
      (some_map (final_term s unit) (term_pieces s order) (some_pieces s order))
      (finals_are_one s (IsLeft s order) unit (term_pieces s order) are_single)

  -- the terms add up to what they did
  pub out_total : (point : ℕ → ℕ)
      → total_of T.a (map (term_total m' (own_variables (flat (with_sums s sums expr))) point) (terms expr))
      ≡ total_of T.a (map (term_total (meaning_at T s) (own_variables (flat s)) point) (terms s.expr))
  out_total point =
      ap (λ ts. total_of T.a (map (term_total m' (own_variables (flat (with_sums s sums expr))) point) ts)) terms_of_it
      ∙ finals_value T s sums expr numbered (IsLeft s order) unit (λ e leaves p. (left_same e leaves).means p)
      (λ e leaves v. (left_same e leaves).stands v) (term_pieces s order) are_single have_units point
      ∙ term_pieces_value s order numbered clear T tells square point

out_value : (one : ℕ) (s : Statement) (order : List ℕ) → IsNumberedWithSums s → HasNoBadSum s → (a : Arithmetic) → Laws a → a.one ≡ one
    → (has_minus_with_sums s ≡ true → Squares a) → (values : ℕ → List ℕ → ℕ) (ranges : ℕ → ℕ) (coords : List ℕ)
    → nested_value a (multiplied_out one s order) values ranges coords ≡ nested_value a s values ranges coords
out_value one s order numbered clear a laws same_one square values ranges coords =
    let one_is : word_of a one ≡ a.one = ap (word_of a) (sym same_one) ∙ laws.plus_zero a.one laws.one_fits in
    value_by_terms a laws (multiplied_out one s order) values ranges coords
    ∙ out_total one s order numbered clear (value_telling a laws values ranges) (value_tells a laws values ranges) one_is square
    (point_of s.left.vars coords)
    ∙ sym (value_by_terms a laws s values ranges coords)

pub keeps_value : (one : ℕ) (s : Statement) (order : List ℕ) → IsNumberedWithSums s → HasNoBadSum s
    → KeepsValue one s (multiplied one s order)
keeps_value one s order numbered clear = by (list_all (is_inner s order) (numbers_from 0 (length s.sums)))
  where
    by : (b : Bool) → KeepsValue one s (if b then s else multiplied_out one s order)
    by true = λ a laws same minus values ranges coords. refl
    by false = λ a laws same minus values ranges coords.
        out_value one s order numbered clear a laws same (λ g. minus_one_square a laws (minus g)) values ranges coords

-- it is well formed
pub out_numbered : (one : ℕ) (s : Statement) (order : List ℕ) → IsNumberedWithSums s → HasNoBadSum s
    → IsNumberedWithSums (multiplied_out one s order)
out_numbered one s order numbered clear =
    multiplied_numbered one s order numbered
    (singles s order numbered clear (value_telling ring ring_laws (λ t coords. 0) (λ v. 0))
    (value_tells ring ring_laws (λ t coords. 0) (λ v. 0))
    (λ h. minus_one_square ring ring_laws ring_minus_laws))

pub keeps_numbers : (one : ℕ) (s : Statement) (order : List ℕ) → IsNumberedWithSums s → HasNoBadSum s
    → IsNumberedWithSums (multiplied one s order)
keeps_numbers one s order numbered clear = by (list_all (is_inner s order) (numbers_from 0 (length s.sums)))
  where
    by : (b : Bool) → IsNumberedWithSums (if b then s else multiplied_out one s order)
    by true = numbered
    by false = out_numbered one s order numbered clear

-- and nothing else becomes another
pub keeps_rest : (one : ℕ) (s : Statement) (order : List ℕ) → KeepsRest s (multiplied one s order)
keeps_rest one s order = by (list_all (is_inner s order) (numbers_from 0 (length s.sums)))
  where
    by : (b : Bool) → KeepsRest s (if b then s else multiplied_out one s order)
    by true = record { tensors = refl; vars = refl; left = refl; accumulate = refl; accesses = refl }
    by false = record { tensors = refl; vars = refl; left = refl; accumulate = refl; accesses = refl }
