-- The pieces of a statement's terms: each is one term, and they add up to the terms.
use Rattle.std.specs.Prelude.{◌≡◌, ℕ, ◌+◌, Bool, true, List, [], ◌∷◌, length, map, refl}
use Rattle.std.specs.List.{list_any}
use Rattle.std.proofs.Common.{◌∙◌, ap}
use Rattle.numbers.specs.Sums.{total_of}
use Rattle.lists.specs.Each.{Each}
use Rattle.lists.proofs.Each.{each_append}
use Rattle.index_notation.specs.Statement.{IsNumberedWithSums}
use Rattle.index_notation.specs.declared.syntax.NestedSum.{NestedSum}
use Rattle.index_notation.specs.declared.syntax.Statement.{Statement}
use Rattle.expr_terms.specs.Minus.{has_minus}
use Rattle.expr_terms.specs.Nested.{flat}
use Rattle.expr_terms.specs.Signs.{signed_value}
use Rattle.expr_terms.specs.Terms.{terms, stands_in, own_variables}
use Rattle.expr_terms.specs.declared.term.Term.{Term}
use Rattle.expr_terms.proofs.PointLaws.{sum_over_same}
use Rattle.nested_sums.specs.Bound.{bound_in, bounds, HasNoBadSum}
use Rattle.nested_sums.specs.Multiplied.{cut_piece, cut_pieces, pieces_of_terms, term_pieces}
use Rattle.nested_sums.specs.Pieces.{Piece, Opened, pieces, has_minus_with_sums}
use Rattle.nested_sums.proofs.AddedPieces.{IsPieceOf, ArePiecesOf, each_as, or_first, pieces_are}
use Rattle.nested_sums.proofs.CutPieces.{CanBeCut, all_cut_value}
use Rattle.nested_sums.proofs.CutTerms.{IsTermOf, term_meaning, terms_are}
use Rattle.nested_sums.proofs.FinalTerms.{term_total}
use Rattle.nested_sums.proofs.Leaves.{EachLeaf}
use Rattle.nested_sums.proofs.Meaning.{Meaning, meaning}
use Rattle.nested_sums.proofs.PieceValues.{Squares, pieces_value, both_value}
use Rattle.nested_sums.proofs.Singles.{IsSingle, cut_single}
use Rattle.nested_sums.proofs.StatementPieces.{IsLeft, all_opened_sums, opened_are, pieces_left}
use Rattle.nested_sums.proofs.TermParts.{IsPart, parts, term_leaves}
use Rattle.nested_sums.proofs.Tellings.{Telling, Tells, meaning_at}

each_both : {A : Type 0} (P Q : A → Type 0) (xs : List A) → Each P xs → Each Q xs → Each (λ x. P x × Q x) xs
each_both P Q [] h g = tt
each_both P Q (x ∷ xs) h g = ((h.0, g.0), each_both P Q xs h.1 g.1)

each_map_both : {A B : Type 0} (P Q : A → Type 0) (R : B → Type 0) (f : A → B) → ((x : A) → P x → Q x → R (f x)) → (xs : List A)
    → Each P xs → Each Q xs → Each R (map f xs)
each_map_both P Q R f made [] h g = tt
each_map_both P Q R f made (x ∷ xs) h g = (made x h.0 g.0, each_map_both P Q R f made xs h.1 g.1)

module _ (s : Statement) (order : List ℕ) (numbered : IsNumberedWithSums s) (clear : HasNoBadSum s) (T : Telling) (tells : Tells T)
    (square : has_minus_with_sums s ≡ true → Squares T.a) where
  abbrev m : Meaning
  m = meaning_at T s

  abbrev opened : List Opened
  opened = all_opened_sums s order

  -- a term of the statement
  abbrev IsOneOf : Term → Type 0
  IsOneOf t =
      IsPart m (bounds s) (length s.accesses + length s.sums) (bound_in (bounds s) s.expr) t.expr
      × IsTermOf m (λ v. stands_in (flat s).accesses v s.expr) t

  minus_there : has_minus s.expr ≡ true → Squares T.a
  minus_there h = square (or_first (has_minus s.expr) (list_any (λ (sum : NestedSum). has_minus sum.inside) s.sums) h)

  pub each_term : Each IsOneOf (terms s.expr)
  each_term =
      each_both (λ (t : Term). IsPart m (bounds s) (length s.accesses + length s.sums) (bound_in (bounds s) s.expr) t.expr)
      (IsTermOf m (λ v. stands_in (flat s).accesses v s.expr)) (terms s.expr)
      (parts m (bounds s) (length s.accesses + length s.sums) (bound_in (bounds s) s.expr) s.expr (record {
        clear = clear.sides;
        minus = minus_there;
        under = numbered.expr;
        bound = λ v h. h;
      }))
      (terms_are m s.expr minus_there).each

  module _ (t : Term) (one_of : IsOneOf t) where
    made : ArePiecesOf m (λ p. meaning m p t.expr) (λ v. stands_in (flat s).accesses v t.expr) (bound_in (bounds s) t.expr)
        (pieces opened t.expr)
    made =
        pieces_are m (bounds s) opened (opened_are s order numbered clear T tells square) t.expr one_of.0.clear one_of.0.minus

    abbrev IsPieceThere : Piece → Type 0
    IsPieceThere = IsPieceOf m (λ v. stands_in (flat s).accesses v t.expr) (bound_in (bounds s) t.expr)

    cut_singles : (b : Bool) (ps : List Piece) → Each IsPieceThere ps → Each (λ (piece : Piece). EachLeaf (IsLeft s order) piece.factors) ps
        → Each (IsSingle s (IsLeft s order)) (cut_pieces b (own_variables (flat s) t) ps)
    cut_singles b [] h g = tt
    cut_singles b (piece ∷ ps) h g =
        each_append (IsSingle s (IsLeft s order)) (map (cut_piece b (own_variables (flat s) t) piece) (terms piece.factors))
        (cut_pieces b (own_variables (flat s) t) ps)
        (each_map_both (IsTermOf m (λ v. stands_in (flat s).accesses v piece.factors)) (λ (u : Term). EachLeaf (IsLeft s order) u.expr)
        (IsSingle s (IsLeft s order)) (cut_piece b (own_variables (flat s) t) piece)
        (λ u k l. cut_single T s numbered clear (IsLeft s order) t one_of.1.free one_of.0.bound b piece u h.0 k l)
        (terms piece.factors) (terms_are m piece.factors h.0.minus).each (term_leaves (IsLeft s order) piece.factors g.0))
        (cut_singles b ps h.1 g.1)

    singles_of_term : Each (IsSingle s (IsLeft s order)) (cut_pieces t.negated (own_variables (flat s) t) (pieces opened t.expr))
    singles_of_term =
        cut_singles t.negated (pieces opened t.expr) made.each (pieces_left s order numbered t.expr one_of.0.under)

    term_value_is : (point : ℕ → ℕ) → pieces_value m point (cut_pieces t.negated (own_variables (flat s) t) (pieces opened t.expr))
        ≡ term_total m (own_variables (flat s)) point t
    term_value_is point =
        all_cut_value m t.negated (own_variables (flat s) t) (pieces opened t.expr) one_of.1.sign
        (each_as IsPieceThere (CanBeCut m) (λ piece h. record {
          stands = λ v. stands_in (flat s).accesses v piece.factors;
          terms_are = terms_are m piece.factors h.minus;
          sign = h.sign;
        }) (pieces opened t.expr) made.each) point
        ∙ sum_over_same T.a T.ranges (own_variables (flat s) t) (λ q. signed_value T.a t.negated (pieces_value m q (pieces opened t.expr)))
        (λ q. term_meaning m q t) (λ q. ap (signed_value T.a t.negated) (made.adds q)) point

  singles_of : (ts : List Term) → Each IsOneOf ts → Each (IsSingle s (IsLeft s order)) (pieces_of_terms s opened ts)
  singles_of [] h = tt
  singles_of (t ∷ ts) h =
      each_append (IsSingle s (IsLeft s order)) (cut_pieces t.negated (own_variables (flat s) t) (pieces opened t.expr))
      (pieces_of_terms s opened ts) (singles_of_term t h.0) (singles_of ts h.1)

  pub singles : Each (IsSingle s (IsLeft s order)) (term_pieces s order)
  singles = singles_of (terms s.expr) each_term

  value_of_terms : (ts : List Term) → Each IsOneOf ts → (point : ℕ → ℕ)
      → pieces_value m point (pieces_of_terms s opened ts) ≡ total_of T.a (map (term_total m (own_variables (flat s)) point) ts)
  value_of_terms [] h point = refl
  value_of_terms (t ∷ ts) h point =
      both_value m point (cut_pieces t.negated (own_variables (flat s) t) (pieces opened t.expr)) (pieces_of_terms s opened ts)
      ∙ (λ i. T.a.plus (term_value_is t h.0 point i) (value_of_terms ts h.1 point i))

  pub term_pieces_value : (point : ℕ → ℕ)
      → pieces_value m point (term_pieces s order) ≡ total_of T.a (map (term_total m (own_variables (flat s)) point) (terms s.expr))
  term_pieces_value point = value_of_terms (terms s.expr) each_term point
