-- Pieces of a term, cut into terms, each summed over the term's variables too.
use Rattle.std.specs.Prelude.{◌≡◌, ℕ, ◌<◌, ◌^◌, Bool, true, false, List, [], ◌∷◌, ◌++◌, map, refl}
use Rattle.std.proofs.Common.{◌∙◌, sym, ap}
use Rattle.numbers.specs.Arithmetic.{Arithmetic, Laws}
use Rattle.numbers.specs.Sums.{total_of}
use Rattle.numbers.proofs.Sums.{sum_same, sum_plus, sum_zeros}
use Rattle.lists.specs.Each.{Each}
use Rattle.expr_terms.specs.Points.{with_coordinate, sum_over}
use Rattle.expr_terms.specs.Signs.{signed_value}
use Rattle.expr_terms.specs.declared.term.Term.{Term}
use Rattle.expr_terms.specs.Terms.{terms}
use Rattle.expr_terms.specs.Value.{minus}
use Rattle.expr_terms.proofs.PointLaws.{sum_over_same}
use Rattle.expr_terms.proofs.TermSums.{sum_over_times}
use Rattle.nested_sums.specs.Pieces.{Piece, differ}
use Rattle.nested_sums.specs.Multiplied.{cut_piece, cut_pieces}
use Rattle.nested_sums.proofs.CutTerms.{IsTermOf, AreTermsOf, term_meaning}
use Rattle.nested_sums.proofs.Meaning.{Meaning, meaning, meaning_fits}
use Rattle.nested_sums.proofs.PieceValues.{Squares, minus_twice, signed_not, sum_over_both}
use Rattle.nested_sums.proofs.PieceValues.{factors_value, piece_value, pieces_value, both_value}

module _ (a : Arithmetic) (laws : Laws a) (ranges : ℕ → ℕ) where
  zeros_over : (vs : List ℕ) (p : ℕ → ℕ) → sum_over a ranges vs (λ q. a.zero) p ≡ a.zero
  zeros_over [] p = refl
  zeros_over (v ∷ vs) p =
      sum_same a (ranges v) (λ x. sum_over a ranges vs (λ q. a.zero) (with_coordinate p v x)) (λ x. a.zero)
      (λ x h. zeros_over vs (with_coordinate p v x))
      ∙ sum_zeros a laws (ranges v)

  plus_over : (vs : List ℕ) (f g : (ℕ → ℕ) → ℕ) (p : ℕ → ℕ)
      → sum_over a ranges vs (λ q. a.plus (f q) (g q)) p ≡ a.plus (sum_over a ranges vs f p) (sum_over a ranges vs g p)
  plus_over [] f g p = refl
  plus_over (v ∷ vs) f g p =
      sum_same a (ranges v) (λ x. sum_over a ranges vs (λ q. a.plus (f q) (g q)) (with_coordinate p v x))
      (λ x. a.plus (sum_over a ranges vs f (with_coordinate p v x)) (sum_over a ranges vs g (with_coordinate p v x)))
      (λ x h. plus_over vs f g (with_coordinate p v x))
      ∙ sum_plus a laws (ranges v) (λ x. sum_over a ranges vs f (with_coordinate p v x))
      (λ x. sum_over a ranges vs g (with_coordinate p v x))

  -- a total of sums over variables is the sum of totals
  pub total_over : {A : Type 0} (vs : List ℕ) (f : A → (ℕ → ℕ) → ℕ) (xs : List A) (p : ℕ → ℕ)
      → total_of a (map (λ x. sum_over a ranges vs (f x) p) xs) ≡ sum_over a ranges vs (λ q. total_of a (map (λ x. f x q) xs)) p
  total_over vs f [] p = sym (zeros_over vs p)
  total_over vs f (x ∷ xs) p =
      ap (a.plus (sum_over a ranges vs (f x) p)) (total_over vs f xs p)
      ∙ sym (plus_over vs (f x) (λ q. total_of a (map (λ y. f y q) xs)) p)

  pub signed_over : (b : Bool) (vs : List ℕ) (f : (ℕ → ℕ) → ℕ) (p : ℕ → ℕ)
      → sum_over a ranges vs (λ q. signed_value a b (f q)) p ≡ signed_value a b (sum_over a ranges vs f p)
  signed_over true vs f p = sym (sum_over_times a laws a.minus_one ranges vs f p)
  signed_over false vs f p = refl

module _ (a : Arithmetic) (laws : Laws a) where
  -- a sign that is made of two
  pub signed_differ : (b c : Bool) → (b ≡ true → c ≡ true → Squares a) → (x : ℕ) → x < 2 ^ 64
      → signed_value a (differ b c) x ≡ signed_value a b (signed_value a c x)
  signed_differ false c square x word = refl
  signed_differ true false square x word = refl
  signed_differ true true square x word = sym (minus_twice a laws (square refl refl) x word)

module _ (m : Meaning) where
  -- the terms of a piece's factors, with a sign more
  signed_total : (b : Bool) (stands : ℕ → Bool) (q : ℕ → ℕ) (us : List Term) → Each (IsTermOf m stands) us
      → total_of m.a (map (λ (u : Term). signed_value m.a (differ b u.negated) (meaning m q u.expr)) us)
      ≡ signed_value m.a b (total_of m.a (map (term_meaning m q) us))
  signed_total false stands q us each = refl
  signed_total true stands q [] each = sym (m.laws.times_zero m.a.minus_one)
  signed_total true stands q (u ∷ us) each =
      ap (λ x. m.a.plus x (total_of m.a (map (λ (t : Term). signed_value m.a (differ true t.negated) (meaning m q t.expr)) us)))
      (signed_not m.a m.laws u.negated each.0.sign (meaning m q u.expr) (meaning_fits m q u.expr))
      ∙ ap (m.a.plus (minus m.a (term_meaning m q u))) (signed_total true stands q us each.1)
      ∙ sym (m.laws.distributes m.a.minus_one (term_meaning m q u) (total_of m.a (map (term_meaning m q) us)))

  map_map : (f : Term → Piece) (g : Piece → ℕ) (us : List Term) → map g (map f us) ≡ map (λ u. g (f u)) us
  map_map f g [] = refl
  map_map f g (u ∷ us) = ap (λ xs. g (f u) ∷ xs) (map_map f g us)

  -- a piece that is cut is as it was, summed over more, with a sign more
  cut_value : (b : Bool) (own : List ℕ) (piece : Piece) (stands : ℕ → Bool) → (b ≡ true → Squares m.a) → (piece.negated ≡ true
      → Squares m.a)
      → AreTermsOf m (λ p. meaning m p piece.factors) stands (terms piece.factors) → (p : ℕ → ℕ)
      → pieces_value m p (map (cut_piece b own piece) (terms piece.factors))
      ≡ sum_over m.a m.ranges own (λ q. signed_value m.a b (piece_value m q piece)) p
  cut_value b own piece stands sign square are p =
      let c : Bool = differ b piece.negated in
      let us : List Term = terms piece.factors in
      let f = λ (u : Term) (q : ℕ → ℕ). signed_value m.a (differ c u.negated) (meaning m q u.expr) in
      ap (total_of m.a) (map_map (cut_piece b own piece) (piece_value m p) us)
      ∙ total_over m.a m.laws m.ranges (own ++ piece.over) f us p
      ∙ sum_over_both m.a m.ranges own piece.over (λ q. total_of m.a (map (λ u. f u q) us)) p
      ∙ sum_over_same m.a m.ranges own (sum_over m.a m.ranges piece.over (λ q. total_of m.a (map (λ u. f u q) us)))
      (λ q. signed_value m.a b (piece_value m q piece))
      (λ q. sum_over_same m.a m.ranges piece.over (λ r. total_of m.a (map (λ u. f u r) us))
      (λ r. signed_value m.a b (factors_value m piece r))
      (λ r. signed_total c stands r us are.each ∙ ap (signed_value m.a c) (are.adds r)
      ∙ signed_differ m.a m.laws b piece.negated (λ h g. square g) (meaning m r piece.factors) (meaning_fits m r piece.factors)) q
      ∙ signed_over m.a m.laws m.ranges b piece.over (factors_value m piece) q) p

  -- what is asked of a piece that is cut
  pub record CanBeCut (piece : Piece) : Type 0 where
    pub stands : ℕ → Bool
    pub terms_are : AreTermsOf m (λ p. meaning m p piece.factors) stands (terms piece.factors)
    pub sign : piece.negated ≡ true → Squares m.a

  pub all_cut_value : (b : Bool) (own : List ℕ) (ps : List Piece) → (b ≡ true → Squares m.a) → Each CanBeCut ps → (p : ℕ → ℕ)
      → pieces_value m p (cut_pieces b own ps) ≡ sum_over m.a m.ranges own (λ q. signed_value m.a b (pieces_value m q ps)) p
  all_cut_value b own [] sign each p =
      sym (sum_over_same m.a m.ranges own (λ q. signed_value m.a b m.a.zero) (λ q. m.a.zero) (λ q. none b) p
      ∙ zeros_over m.a m.laws m.ranges own p)
    where
      none : (c : Bool) → signed_value m.a c m.a.zero ≡ m.a.zero
      none true = m.laws.times_zero m.a.minus_one
      none false = refl
  all_cut_value b own (piece ∷ ps) sign each p =
      both_value m p (map (cut_piece b own piece) (terms piece.factors)) (cut_pieces b own ps)
      ∙ (λ i. m.a.plus (cut_value b own piece each.0.stands sign each.0.sign each.0.terms_are p i) (all_cut_value b own ps sign each.1 p i))
      ∙ sym (plus_over m.a m.laws m.ranges own (λ q. signed_value m.a b (piece_value m q piece))
      (λ q. signed_value m.a b (pieces_value m q ps)) p)
      ∙ sum_over_same m.a m.ranges own
      (λ q. m.a.plus (signed_value m.a b (piece_value m q piece)) (signed_value m.a b (pieces_value m q ps)))
      (λ q. signed_value m.a b (m.a.plus (piece_value m q piece) (pieces_value m q ps)))
      (λ q. sums b (piece_value m q piece) (pieces_value m q ps)) p
    where
      sums : (c : Bool) (x y : ℕ) → m.a.plus (signed_value m.a c x) (signed_value m.a c y) ≡ signed_value m.a c (m.a.plus x y)
      sums true x y = sym (m.laws.distributes m.a.minus_one x y)
      sums false x y = refl
