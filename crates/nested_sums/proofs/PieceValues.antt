-- What pieces mean: those of a sum, of a negated one, of a product, and of one that is summed over a variable more.
use Rattle.std.specs.Prelude.{◌≡◌, ℕ, ◌<◌, ◌^◌, Bool, true, false, not, nat_eq, ◌||◌, List, [], ◌∷◌, ◌++◌, map, refl}
use Rattle.std.proofs.Common.{◌∙◌, sym, ap}
use Rattle.std.proofs.lemmas.Bool.{eqb-true, eq-eqb}
use Rattle.std.proofs.lemmas.List.{map-append}
use Rattle.numbers.specs.Arithmetic.{Arithmetic, Laws}
use Rattle.numbers.specs.Sums.{sum_below, total_of}
use Rattle.numbers.proofs.Sums.{total_append, sum_same, sum_times, sum_plus, sum_zeros}
use Rattle.lists.specs.Each.{Each}
use Rattle.index_notation.specs.declared.operator.Operator.TheVariants as op
use Rattle.expr_terms.specs.Points.{with_coordinate, sum_over}
use Rattle.expr_terms.specs.Signs.{signed_value}
use Rattle.expr_terms.specs.Terms.{contains, stands_in}
use Rattle.expr_terms.specs.Value.{minus}
use Rattle.expr_terms.proofs.PointLaws.{coordinate_other, sum_over_same}
use Rattle.expr_terms.proofs.TermLaws.{sum_over_local}
use Rattle.expr_terms.proofs.TermSums.{sum_over_times}
use Rattle.nested_sums.specs.Pieces.{Piece, negated_piece, summed_piece, differ, piece_product, piece_products}
use Rattle.nested_sums.proofs.Meaning.{Meaning, meaning, meaning_binary, meaning_fits, meaning_local}

-- minus one by itself is one
abbrev pub Squares : Arithmetic → Type 0
Squares a = a.times a.minus_one a.minus_one ≡ a.one

module _ (a : Arithmetic) (laws : Laws a) where
  -- a word, by minus one twice
  pub minus_twice : Squares a → (x : ℕ) → x < 2 ^ 64 → minus a (minus a x) ≡ x
  minus_twice square x word =
      sym (laws.times_assoc a.minus_one a.minus_one x) ∙ ap (λ y. a.times y x) square ∙ laws.times_comm a.one x ∙ laws.times_one x word

  times_minus : (x y : ℕ) → a.times x (minus a y) ≡ minus a (a.times x y)
  times_minus x y =
      sym (laws.times_assoc x a.minus_one y) ∙ ap (λ z. a.times z y) (laws.times_comm x a.minus_one) ∙ laws.times_assoc a.minus_one x y

  minus_times : (x y : ℕ) → a.times (minus a x) y ≡ minus a (a.times x y)
  minus_times x y = laws.times_assoc a.minus_one x y

  pub signed_times : (b c : Bool) → (b ≡ true → c ≡ true → Squares a) → (x y : ℕ)
      → a.times (signed_value a b x) (signed_value a c y) ≡ signed_value a (differ b c) (a.times x y)
  signed_times false false square x y = refl
  signed_times false true square x y = times_minus x y
  signed_times true false square x y = minus_times x y
  signed_times true true square x y =
      minus_times x (minus a y) ∙ ap (minus a) (times_minus x y)
      ∙ minus_twice (square refl refl) (a.times x y) (laws.times_fits x y)

  pub signed_not : (b : Bool) → (b ≡ true → Squares a) → (x : ℕ) → x < 2 ^ 64 → signed_value a (not b) x ≡ minus a (signed_value a b x)
  signed_not false square x word = refl
  signed_not true square x word = sym (minus_twice (square refl) x word)

  -- a factor that the summed variables don't move goes out of the sum
  pub sum_over_factor : (ranges : ℕ → ℕ) (vs : List ℕ) (f g : (ℕ → ℕ) → ℕ)
      → ((v : ℕ) → contains vs v ≡ true → (q : ℕ → ℕ) (x : ℕ) → f (with_coordinate q v x) ≡ f q) → (p : ℕ → ℕ)
      → sum_over a ranges vs (λ q. a.times (f q) (g q)) p ≡ a.times (f p) (sum_over a ranges vs g p)
  sum_over_factor ranges [] f g unmoved p = refl
  sum_over_factor ranges (v ∷ vs) f g unmoved p =
      sum_same a (ranges v) (λ x. sum_over a ranges vs (λ q. a.times (f q) (g q)) (with_coordinate p v x))
      (λ x. a.times (f p) (sum_over a ranges vs g (with_coordinate p v x)))
      (λ x h. sum_over_factor ranges vs f g (λ w there. unmoved w (ap (λ b. nat_eq v w || b) there
      ∙ or_last (nat_eq v w))) (with_coordinate p v x)
      ∙ ap (λ y. a.times y (sum_over a ranges vs g (with_coordinate p v x)))
      (unmoved v (ap (λ b. b || contains vs v) (eq-eqb v v refl)) p x))
      ∙ sym (sum_times a laws (f p) (ranges v) (λ x. sum_over a ranges vs g (with_coordinate p v x)))
    where
      or_last : (b : Bool) → (b || true) ≡ true
      or_last true = refl
      or_last false = refl

-- sums over some variables and then over others
pub sum_over_both : (a : Arithmetic) (ranges : ℕ → ℕ) (vs ws : List ℕ) (f : (ℕ → ℕ) → ℕ) (p : ℕ → ℕ)
    → sum_over a ranges (vs ++ ws) f p ≡ sum_over a ranges vs (sum_over a ranges ws f) p
sum_over_both a ranges [] ws f p = refl
sum_over_both a ranges (v ∷ vs) ws f p =
    sum_same a (ranges v) (λ x. sum_over a ranges (vs ++ ws) f (with_coordinate p v x))
    (λ x. sum_over a ranges vs (sum_over a ranges ws f) (with_coordinate p v x))
    (λ x h. sum_over_both a ranges vs ws f (with_coordinate p v x))

-- none of these variables stands
abbrev pub NoneStands : List ℕ → (ℕ → Bool) → Type 0
NoneStands vs stands = Each (λ v. stands v ≡ false) vs

none_of_them : (vs : List ℕ) (stands : ℕ → Bool) → NoneStands vs stands → (v : ℕ) → contains vs v ≡ true → stands v ≡ false
none_of_them [] stands none v there = cc
none_of_them (w ∷ vs) stands none v there = by (nat_eq w v) refl there (none_of_them vs stands none.1 v)
  where
    by : (b : Bool) → nat_eq w v ≡ b → (b || contains vs v) ≡ true → (contains vs v ≡ true → stands v ≡ false) → stands v ≡ false
    by true e h rest = ap stands (sym (eqb-true w v e)) ∙ none.0
    by false e h rest = rest h

-- two points that differ at one variable alone, which doesn't stand
moved_apart : (stands : ℕ → Bool) (v : ℕ) → stands v ≡ false → (q : ℕ → ℕ) (x u : ℕ) → stands u ≡ true → with_coordinate q v x u ≡ q u
moved_apart stands v none q x u there = coordinate_other q v x u (λ same. absurd
    (let both : false ≡ true = sym none ∙ ap stands same ∙ there in cc))

module _ (m : Meaning) where
  -- what a piece means at a point, and what pieces add up to
  abbrev pub factors_value : Piece → (ℕ → ℕ) → ℕ
  factors_value piece q = signed_value m.a piece.negated (meaning m q piece.factors)

  abbrev pub piece_value : (ℕ → ℕ) → Piece → ℕ
  piece_value p piece = sum_over m.a m.ranges piece.over (factors_value piece) p

  abbrev pub pieces_value : (ℕ → ℕ) → List Piece → ℕ
  pieces_value p ps = total_of m.a (map (piece_value p) ps)

  pub both_value : (p : ℕ → ℕ) (ps qs : List Piece) → pieces_value p (ps ++ qs) ≡ m.a.plus (pieces_value p ps) (pieces_value p qs)
  both_value p ps qs =
      ap (total_of m.a) (map-append (piece_value p) ps qs) ∙ total_append m.a m.laws (map (piece_value p) ps) (map (piece_value p) qs)

  -- a negated piece counts by minus one
  negated_value : (p : ℕ → ℕ) (piece : Piece) → (piece.negated ≡ true → Squares m.a)
      → piece_value p (negated_piece piece) ≡ minus m.a (piece_value p piece)
  negated_value p piece square =
      sum_over_same m.a m.ranges piece.over (factors_value (negated_piece piece)) (λ q. minus m.a (factors_value piece q))
      (λ q. signed_not m.a m.laws piece.negated square (meaning m q piece.factors) (meaning_fits m q piece.factors)) p
      ∙ sym (sum_over_times m.a m.laws m.a.minus_one m.ranges piece.over (factors_value piece) p)

  pub all_negated_value : (p : ℕ → ℕ) (ps : List Piece) → Each (λ (piece : Piece). piece.negated ≡ true → Squares m.a) ps
      → pieces_value p (map negated_piece ps) ≡ minus m.a (pieces_value p ps)
  all_negated_value p [] square = sym (m.laws.times_zero m.a.minus_one)
  all_negated_value p (piece ∷ ps) square =
      ap (λ x. m.a.plus x (pieces_value p (map negated_piece ps))) (negated_value p piece square.0)
      ∙ ap (m.a.plus (minus m.a (piece_value p piece))) (all_negated_value p ps square.1)
      ∙ sym (m.laws.distributes m.a.minus_one (piece_value p piece) (pieces_value p ps))

  -- pieces that are summed over a variable more
  pub all_summed_value : (v : ℕ) (p : ℕ → ℕ) (ps : List Piece)
      → pieces_value p (map (summed_piece v) ps) ≡ sum_below m.a (m.ranges v) (λ x. pieces_value (with_coordinate p v x) ps)
  all_summed_value v p [] = sym (sum_zeros m.a m.laws (m.ranges v))
  all_summed_value v p (piece ∷ ps) =
      ap (m.a.plus (piece_value p (summed_piece v piece))) (all_summed_value v p ps)
      ∙ sym (sum_plus m.a m.laws (m.ranges v) (λ x. piece_value (with_coordinate p v x) piece)
      (λ x. pieces_value (with_coordinate p v x) ps))

  -- what neither piece sums over stands in the other
  pub record AreApartPieces (first second : Piece) : Type 0 where
    pub over_first : NoneStands first.over (λ v. stands_in m.accesses v second.factors)
    pub over_second : NoneStands second.over (λ v. stands_in m.accesses v first.factors)
    pub sign : first.negated ≡ true → second.negated ≡ true → Squares m.a

  factors_local : (piece : Piece) (p q : ℕ → ℕ) → ((v : ℕ) → stands_in m.accesses v piece.factors ≡ true → p v ≡ q v)
      → factors_value piece p ≡ factors_value piece q
  factors_local piece p q same = ap (signed_value m.a piece.negated) (meaning_local m piece.factors p q same)

  unmoved_factors : (piece : Piece) (vs : List ℕ) → NoneStands vs (λ v. stands_in m.accesses v piece.factors) → (v : ℕ)
      → contains vs v ≡ true → (q : ℕ → ℕ) (x : ℕ) → factors_value piece (with_coordinate q v x) ≡ factors_value piece q
  unmoved_factors piece vs none v there q x =
      factors_local piece (with_coordinate q v x) q
      (moved_apart (λ u. stands_in m.accesses u piece.factors) v
      (none_of_them vs (λ u. stands_in m.accesses u piece.factors) none v there) q x)

  unmoved_piece : (piece : Piece) (vs : List ℕ) → NoneStands vs (λ v. stands_in m.accesses v piece.factors) → (v : ℕ)
      → contains vs v ≡ true → (q : ℕ → ℕ) (x : ℕ) → piece_value (with_coordinate q v x) piece ≡ piece_value q piece
  unmoved_piece piece vs none v there q x =
      sum_over_local m.a m.ranges piece.over (factors_value piece) (λ u. stands_in m.accesses u piece.factors) (factors_local piece)
      (with_coordinate q v x) q
      (λ u stands other. moved_apart (λ w. stands_in m.accesses w piece.factors) v
      (none_of_them vs (λ w. stands_in m.accesses w piece.factors) none v there) q x u stands)

  -- a product of two pieces
  pub product_value : (p : ℕ → ℕ) (first second : Piece) → AreApartPieces first second
      → piece_value p (piece_product first second) ≡ m.a.times (piece_value p first) (piece_value p second)
  product_value p first second apart =
      let f = factors_value first in
      let g = factors_value second in
      let a = m.a in
      sum_over_both a m.ranges first.over second.over (factors_value (piece_product first second)) p
      ∙ sum_over_same a m.ranges first.over (sum_over a m.ranges second.over (factors_value (piece_product first second)))
      (λ q. a.times (piece_value q second) (f q))
      (λ q. sum_over_same a m.ranges second.over (factors_value (piece_product first second)) (λ r. a.times (f r) (g r))
      (λ r. ap (signed_value a (differ first.negated second.negated)) (meaning_binary m r op.Mul first.factors second.factors)
      ∙ sym (signed_times a m.laws first.negated second.negated apart.sign (meaning m r first.factors) (meaning m r second.factors))) q
      ∙ sum_over_factor a m.laws m.ranges second.over f g (unmoved_factors first second.over apart.over_second) q
      ∙ m.laws.times_comm (f q) (piece_value q second)) p
      ∙ sum_over_factor a m.laws m.ranges first.over (λ q. piece_value q second) f (unmoved_piece second first.over apart.over_first) p
      ∙ m.laws.times_comm (piece_value p second) (piece_value p first)

  -- one with each of others, and each with each
  products_of_one : (p : ℕ → ℕ) (first : Piece) (qs : List Piece) → Each (AreApartPieces first) qs
      → pieces_value p (map (piece_product first) qs) ≡ m.a.times (piece_value p first) (pieces_value p qs)
  products_of_one p first [] apart = sym (m.laws.times_zero (piece_value p first))
  products_of_one p first (second ∷ qs) apart =
      ap (λ x. m.a.plus x (pieces_value p (map (piece_product first) qs))) (product_value p first second apart.0)
      ∙ ap (m.a.plus (m.a.times (piece_value p first) (piece_value p second))) (products_of_one p first qs apart.1)
      ∙ sym (m.laws.distributes (piece_value p first) (piece_value p second) (pieces_value p qs))

  pub products_value : (p : ℕ → ℕ) (ps qs : List Piece) → Each (λ (first : Piece). Each (AreApartPieces first) qs) ps
      → pieces_value p (piece_products ps qs) ≡ m.a.times (pieces_value p ps) (pieces_value p qs)
  products_value p [] qs apart =
      sym (m.laws.times_zero (pieces_value p qs)) ∙ m.laws.times_comm (pieces_value p qs) m.a.zero
  products_value p (first ∷ ps) qs apart =
      let all = pieces_value p qs in
      both_value p (map (piece_product first) qs) (piece_products ps qs)
      ∙ ap (λ x. m.a.plus x (pieces_value p (piece_products ps qs)))
      (products_of_one p first qs apart.0 ∙ m.laws.times_comm (piece_value p first) all)
      ∙ ap (m.a.plus (m.a.times all (piece_value p first)))
      (products_value p ps qs apart.1 ∙ m.laws.times_comm (pieces_value p ps) all)
      ∙ sym (m.laws.distributes all (piece_value p first) (pieces_value p ps))
      ∙ m.laws.times_comm all (m.a.plus (piece_value p first) (pieces_value p ps))
