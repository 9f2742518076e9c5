-- The pieces of an expression add up to it.
use Rattle.std.specs.Prelude.{◌≡◌, ◌≢◌, ◌⊎◌, ℕ, Bool, true, false, nat_eq, cond, ◌||◌, ◌&&◌, List, [], ◌∷◌, ◌++◌}
use Rattle.std.specs.Prelude.{map, refl}
use Rattle.std.proofs.Common.{◌∙◌, sym, ap, subst, inl, inr}
use Rattle.std.proofs.lemmas.Bool.{eqb-true, eqb-false, eq-eqb}
use Rattle.numbers.specs.Sums.{sum_below}
use Rattle.numbers.proofs.Sums.{sum_same}
use Rattle.lists.specs.Each.{Each}
use Rattle.lists.proofs.Each.{each_append}
use Rattle.index_notation.specs.Operators.{is_minus}
use Rattle.index_notation.specs.Statement.{IsDistinct}
use Rattle.index_notation.specs.declared.operator.Operator.{Operator}
use Rattle.index_notation.specs.declared.operator.Operator.TheVariants as op
use Rattle.index_notation.specs.declared.syntax.Expr.{Expr, Num, Access as AccessOf, Binary', Neg', Row_of-Expr, end_of-Expr}
use Rattle.index_notation.specs.declared.syntax.Expr.{more_of-Expr}
use Rattle.expr_terms.specs.Minus.{has_minus, has_minus_in}
use Rattle.expr_terms.specs.Points.{with_coordinate}
use Rattle.expr_terms.specs.Terms.{contains, stands_in, stands_inside}
use Rattle.expr_terms.specs.Value.{applied, minus}
use Rattle.expr_terms.proofs.Equations.{stands_in_binary}
use Rattle.expr_terms.proofs.Meanings.{has_minus_binary}
use Rattle.nested_sums.specs.Bound.{AreApart, IsClear, IsClear_in, bound_in, bound_inside}
use Rattle.nested_sums.specs.Pieces.{Piece, Opened, whole_piece, negated_piece, summed_piece, differ, piece_product, piece_products}
use Rattle.nested_sums.specs.Pieces.{pieces_of_sides, pieces_at, is_whole_in, pieces, pieces_in}
use Rattle.nested_sums.proofs.Meaning.{Meaning, meaning, meaning_in, meaning_fits}
use Rattle.nested_sums.proofs.PieceValues.{Squares, NoneStands, AreApartPieces, pieces_value, both_value, all_negated_value}
use Rattle.nested_sums.proofs.PieceValues.{all_summed_value, products_value}

-- a piece of an expression in which some variables stand and some are bound: each variable that stands in it does there, or is summed over
pub record IsPieceOf (m : Meaning) (stands : ℕ → Bool) (bound : List ℕ) (piece : Piece) : Type 0 where
  pub over : Each (λ v. contains bound v ≡ true) piece.over
  pub once : IsDistinct piece.over
  pub free : (v : ℕ) → stands_in m.accesses v piece.factors ≡ true → (stands v ≡ true) ⊎ (contains piece.over v ≡ true)
  pub sign : piece.negated ≡ true → Squares m.a
  pub minus : has_minus piece.factors ≡ true → Squares m.a

-- they add up to a value
pub record ArePiecesOf (m : Meaning) (value : (ℕ → ℕ) → ℕ) (stands : ℕ → Bool) (bound : List ℕ) (ps : List Piece) : Type 0 where
  pub adds : (p : ℕ → ℕ) → pieces_value m p ps ≡ value p
  pub each : Each (IsPieceOf m stands bound) ps

pub contains_append : (vs ws : List ℕ) (v : ℕ) → contains (vs ++ ws) v ≡ (contains vs v || contains ws v)
contains_append [] ws v = refl
contains_append (w ∷ vs) ws v = by (nat_eq w v) (contains_append vs ws v)
  where
    by : (b : Bool) → contains (vs ++ ws) v ≡ (contains vs v || contains ws v)
        → (b || contains (vs ++ ws) v) ≡ ((b || contains vs v) || contains ws v)
    by true rest = refl
    by false rest = rest

pub or_first : (b c : Bool) → b ≡ true → (b || c) ≡ true
or_first true c h = refl
or_first false c h = cc

pub or_second : (b c : Bool) → c ≡ true → (b || c) ≡ true
or_second true c h = refl
or_second false c h = h

pub either : (b c : Bool) → (b || c) ≡ true → (b ≡ true) ⊎ (c ≡ true)
either true c h = inl refl
either false c h = inr h

pub each_of : (P : ℕ → Type 0) (vs : List ℕ) → Each P vs → (v : ℕ) → contains vs v ≡ true → P v
each_of P [] each v there = cc
each_of P (w ∷ vs) each v there = by (nat_eq w v) refl there (each_of P vs each.1 v)
  where
    by : (b : Bool) → nat_eq w v ≡ b → (b || contains vs v) ≡ true → (contains vs v ≡ true → P v) → P v
    by true e h rest = subst P (eqb-true w v e) each.0
    by false e h rest = rest h

pub each_as : {A : Type 0} (P Q : A → Type 0) → ((x : A) → P x → Q x) → (xs : List A) → Each P xs → Each Q xs
each_as P Q turned [] each = tt
each_as P Q turned (x ∷ xs) each = (turned x each.0, each_as P Q turned xs each.1)

pub each_map : {A B : Type 0} (P : A → Type 0) (Q : B → Type 0) (f : A → B) → ((x : A) → P x → Q (f x)) → (xs : List A) → Each P xs
    → Each Q (map f xs)
each_map P Q f turned [] each = tt
each_map P Q f turned (x ∷ xs) each = (turned x each.0, each_map P Q f turned xs each.1)

-- what is so of each number that is in a list is so of its elements
pub each_there : (P : ℕ → Type 0) (vs : List ℕ) → ((v : ℕ) → contains vs v ≡ true → P v) → Each P vs
each_there P [] all = tt
each_there P (w ∷ vs) all = (
  all w (or_first (nat_eq w w) (contains vs w) (eq-eqb w w refl)),
  each_there P vs
      (λ v h. all v (or_second (nat_eq w v) (contains vs v) h)),
)

others_apart : (v : ℕ) (ws : List ℕ) → contains ws v ≡ false → Each (λ w. v ≢ w) ws
others_apart v [] none = tt
others_apart v (w ∷ ws) none = by (nat_eq w v) refl none (others_apart v ws)
  where
    by : (b : Bool) → nat_eq w v ≡ b → (b || contains ws v) ≡ false → (contains ws v ≡ false → Each (λ u. v ≢ u) ws)
        → Each (λ u. v ≢ u) (w ∷ ws)
    by true e h rest = cc
    by false e h rest = ((λ same. eqb-false w v e (sym same)), rest h)

pub distinct_both : (vs ws : List ℕ) → IsDistinct vs → IsDistinct ws → Each (λ v. contains ws v ≡ false) vs → IsDistinct (vs ++ ws)
distinct_both [] ws first second apart = second
distinct_both (v ∷ vs) ws first second apart = (
  each_append (λ w. v ≢ w) vs ws first.0 (others_apart v ws apart.0),
  distinct_both vs ws first.1 second apart.1,
)

distinct_more : (v : ℕ) (vs : List ℕ) → contains vs v ≡ false → IsDistinct vs → IsDistinct (v ∷ vs)
distinct_more v vs none distinct = distinct_both (v ∷ []) vs (tt, tt) distinct (none, tt)

pub contradiction : {A : Type 0} (b : Bool) → b ≡ true → b ≡ false → A
contradiction b h g = absurd (let both : true ≡ false = sym h ∙ g in cc)

module _ (m : Meaning) where
  -- among more variables
  wider : (stands more : ℕ → Bool) (bound others : List ℕ) → ((v : ℕ) → stands v ≡ true → more v ≡ true)
      → ((v : ℕ) → contains bound v ≡ true → contains others v ≡ true) → (piece : Piece) → IsPieceOf m stands bound piece
      → IsPieceOf m more others piece
  wider stands more bound others there within piece h = record {
    over = each_as (λ v. contains bound v ≡ true) (λ v. contains others v ≡ true) within piece.over h.over;
    once = h.once;
    free = λ v g. elim (h.free v g) [ inl k ↦ inl (there v k) | inr k ↦ inr k ];
    sign = h.sign;
    minus = h.minus;
  }

  module _ (st st' : ℕ → Bool) (bs bs' : List ℕ) where
    widen_first : (piece : Piece) → IsPieceOf m st bs piece → IsPieceOf m (λ v. st v || st' v) (bs ++ bs') piece
    widen_first piece h =
        wider st (λ v. st v || st' v) bs (bs ++ bs') (λ v g. or_first (st v) (st' v) g)
        (λ v g. contains_append bs bs' v ∙ or_first (contains bs v) (contains bs' v) g) piece h

    widen_second : (piece : Piece) → IsPieceOf m st' bs' piece → IsPieceOf m (λ v. st v || st' v) (bs ++ bs') piece
    widen_second piece h =
        wider st' (λ v. st v || st' v) bs' (bs ++ bs') (λ v g. or_second (st v) (st' v) g)
        (λ v g. contains_append bs bs' v ∙ or_second (contains bs v) (contains bs' v) g) piece h

    -- what one piece sums over stands in no piece of the other side
    none_stand : AreApart bs st' bs' → (first second : Piece) → IsPieceOf m st bs first → IsPieceOf m st' bs' second
        → NoneStands first.over (λ v. stands_in m.accesses v second.factors)
    none_stand apart first second h g =
        each_as (λ v. contains bs v ≡ true) (λ v. stands_in m.accesses v second.factors ≡ false)
        (λ v there. by v there (stands_in m.accesses v second.factors) refl) first.over h.over
      where
        by : (v : ℕ) → contains bs v ≡ true → (b : Bool) → stands_in m.accesses v second.factors ≡ b → b ≡ false
        by v there false e = refl
        by v there true e =
            let none = each_of (λ w. (st' w ≡ false) × (contains bs' w ≡ false)) bs apart v there in
            elim (g.free v e) [
              | inl k ↦ contradiction (st' v) k none.0
              | inr k ↦ contradiction (contains bs' v) (each_of (λ w. contains bs' w ≡ true) second.over g.over v k) none.1
            ]

negated_is : (m : Meaning) (stands : ℕ → Bool) (bound : List ℕ) → Squares m.a → (piece : Piece) → IsPieceOf m stands bound piece
    → IsPieceOf m stands bound (negated_piece piece)
negated_is m stands bound square piece h =
    record { over = h.over; once = h.once; free = h.free; sign = λ negated. square; minus = h.minus }

module _ (m : Meaning) where
  signs : (stands : ℕ → Bool) (bound : List ℕ) (ps : List Piece) → Each (IsPieceOf m stands bound) ps
      → Each (λ (piece : Piece). piece.negated ≡ true → Squares m.a) ps
  signs stands bound ps each = each_as (IsPieceOf m stands bound) (λ (piece : Piece). piece.negated ≡ true → Squares m.a)
      (λ piece h. h.sign) ps each

  -- an expression that is taken as a whole
  pub whole_is : (e : Expr) (bound : List ℕ) → (has_minus e ≡ true → Squares m.a)
      → ArePiecesOf m (λ p. meaning m p e) (λ v. stands_in m.accesses v e) bound (whole_piece e ∷ [])
  whole_is e bound square = record {
    adds = λ p. m.laws.plus_zero (meaning m p e) (meaning_fits m p e);
    each = (record { over = tt; once = tt; free = λ v h. inl h; sign = λ h. cc; minus = square }, tt);
  }

  pub negated_are : (f : (ℕ → ℕ) → ℕ) (stands : ℕ → Bool) (bound : List ℕ) (ps : List Piece) → Squares m.a
      → ArePiecesOf m f stands bound ps → ArePiecesOf m (λ p. minus m.a (f p)) stands bound (map negated_piece ps)
  negated_are f stands bound ps square h = record {
    adds = λ p. all_negated_value m p ps (signs stands bound ps h.each) ∙ ap (minus m.a) (h.adds p);
    each = each_map (IsPieceOf m stands bound) (IsPieceOf m stands bound) negated_piece (negated_is m stands bound square) ps h.each;
  }

  module _ (st st' : ℕ → Bool) (bs bs' : List ℕ) where
    abbrev Whole : Piece → Type 0
    Whole = IsPieceOf m (λ v. st v || st' v) (bs ++ bs')

    product_is : AreApart bs st' bs' → AreApart bs' st bs → (first second : Piece) → IsPieceOf m st bs first
        → IsPieceOf m st' bs' second → Whole (piece_product first second)
    product_is apart apart' first second h g = record {
      over = each_append (λ v. contains (bs ++ bs') v ≡ true) first.over second.over
          (widen_first m st st' bs bs' first h).over (widen_second m st st' bs bs' second g).over;
      once = distinct_both first.over second.over h.once g.once
          (each_as (λ v. contains bs v ≡ true) (λ v. contains second.over v ≡ false) (λ v there. away v there (contains second.over v) refl)
          first.over h.over);
      free = λ v stands. by v (either (stands_in m.accesses v first.factors) (stands_in m.accesses v second.factors)
          (sym (stands_in_binary m.accesses v op.Mul first.factors second.factors) ∙ stands));
      sign = λ negated. sign first.negated second.negated h.sign g.sign negated;
      minus = λ has. elim (either (has_minus first.factors) (has_minus second.factors)
          (sym (has_minus_binary op.Mul first.factors second.factors) ∙ has)) [ inl k ↦ h.minus k | inr k ↦ g.minus k ];
    }
      where
        away : (v : ℕ) → contains bs v ≡ true → (b : Bool) → contains second.over v ≡ b → b ≡ false
        away v there false e = refl
        away v there true e =
            let none = each_of (λ w. (st' w ≡ false) × (contains bs' w ≡ false)) bs apart v there in
            contradiction (contains bs' v) (each_of (λ w. contains bs' w ≡ true) second.over g.over v e) none.1

        by : (v : ℕ) → (stands_in m.accesses v first.factors ≡ true) ⊎ (stands_in m.accesses v second.factors ≡ true)
            → ((st v || st' v) ≡ true) ⊎ (contains (first.over ++ second.over) v ≡ true)
        by v (inl k) = elim (h.free v k) [
          | inl l ↦ inl (or_first (st v) (st' v) l)
          | inr l ↦ inr (contains_append first.over second.over v ∙ or_first (contains first.over v) (contains second.over v) l)
        ]
        by v (inr k) = elim (g.free v k) [
          | inl l ↦ inl (or_second (st v) (st' v) l)
          | inr l ↦ inr (contains_append first.over second.over v ∙ or_second (contains first.over v) (contains second.over v) l)
        ]

        sign : (b c : Bool) → (b ≡ true → Squares m.a) → (c ≡ true → Squares m.a) → differ b c ≡ true → Squares m.a
        sign true c first second negated = first refl
        sign false c first second negated = second negated

    products_are : AreApart bs st' bs' → AreApart bs' st bs → (ps qs : List Piece) → Each (IsPieceOf m st bs) ps
        → Each (IsPieceOf m st' bs') qs
        → Each Whole (piece_products ps qs) × Each (λ (first : Piece). Each (AreApartPieces m first) qs) ps
    products_are apart apart' [] qs h g = (tt, tt)
    products_are apart apart' (first ∷ ps) qs h g =
        let rest = products_are apart apart' ps qs h.1 g in (
          each_append Whole (map (piece_product first) qs) (piece_products ps qs)
              (each_map (IsPieceOf m st' bs') Whole (piece_product first)
              (λ second k. product_is apart apart' first second h.0 k) qs g) rest.0,
          (
            each_as (IsPieceOf m st' bs') (AreApartPieces m first) (λ second k. record {
              over_first = none_stand m st st' bs bs' apart first second h.0 k;
              over_second = none_stand m st' st bs' bs apart' second first k h.0;
              sign = λ negated other. h.0.sign negated;
            }) qs g,
            rest.1,
          ),
        )

    -- the pieces of two sides
    pub sides_are : (o : Operator) (f f' : (ℕ → ℕ) → ℕ) (ps qs : List Piece) → AreApart bs st' bs' → AreApart bs' st bs
        → (is_minus o ≡ true → Squares m.a) → ArePiecesOf m f st bs ps → ArePiecesOf m f' st' bs' qs
        → ArePiecesOf m (λ p. applied m.a o (f p) (f' p)) (λ v. st v || st' v) (bs ++ bs') (pieces_of_sides o ps qs)
    sides_are op.Add f f' ps qs apart apart' square h g = record {
      adds = λ p. both_value m p ps qs ∙ ap (λ x. m.a.plus x (pieces_value m p qs)) (h.adds p) ∙ ap (m.a.plus (f p)) (g.adds p);
      each = each_append Whole ps qs (each_as (IsPieceOf m st bs) Whole (widen_first m st st' bs bs') ps h.each)
          (each_as (IsPieceOf m st' bs') Whole (widen_second m st st' bs bs') qs g.each);
    }
    sides_are op.Sub f f' ps qs apart apart' square h g =
        let less = negated_are f' st' bs' qs (square refl) g in
        record {
          adds = λ p. both_value m p ps (map negated_piece qs) ∙ ap (λ x. m.a.plus x (pieces_value m p (map negated_piece qs))) (h.adds p)
              ∙ ap (m.a.plus (f p)) (less.adds p);
          each = each_append Whole ps (map negated_piece qs) (each_as (IsPieceOf m st bs) Whole (widen_first m st st' bs bs') ps h.each)
              (each_as (IsPieceOf m st' bs') Whole (widen_second m st st' bs bs') (map negated_piece qs) less.each);
        }
    sides_are op.Mul f f' ps qs apart apart' square h g =
        let made = products_are apart apart' ps qs h.each g.each in
        record {
          adds = λ p. products_value m p ps qs made.1 ∙ ap (λ x. m.a.times x (pieces_value m p qs)) (h.adds p)
              ∙ ap (m.a.times (f p)) (g.adds p);
          each = made.0;
        }

  -- the pieces of a sum that is opened
  pub summed_are : (v : ℕ) (f : (ℕ → ℕ) → ℕ) (st outside : ℕ → Bool) (bound : List ℕ) (ps : List Piece) → contains bound v ≡ false
      → ((w : ℕ) → st w ≡ true → w ≢ v → outside w ≡ true) → ArePiecesOf m f st bound ps
      → ArePiecesOf m (λ p. sum_below m.a (m.ranges v) (λ x. f (with_coordinate p v x))) outside (v ∷ bound) (map (summed_piece v) ps)
  summed_are v f st outside bound ps none kept h = record {
    adds = λ p. all_summed_value m v p ps
        ∙ sum_same m.a (m.ranges v) (λ x. pieces_value m (with_coordinate p v x) ps) (λ x. f (with_coordinate p v x))
        (λ x below. h.adds (with_coordinate p v x));
    each = each_map (IsPieceOf m st bound) (IsPieceOf m outside (v ∷ bound)) (summed_piece v) one ps h.each;
  }
    where
      one : (piece : Piece) → IsPieceOf m st bound piece → IsPieceOf m outside (v ∷ bound) (summed_piece v piece)
      one piece k = record {
        over = (
          or_first (nat_eq v v) (contains bound v) (eq-eqb v v refl),
          each_as (λ w. contains bound w ≡ true) (λ w. contains (v ∷ bound) w ≡ true)
              (λ w there. or_second (nat_eq v w) (contains bound w) there) piece.over k.over,
        );
        once = distinct_more v piece.over (away (contains piece.over v) refl) k.once;
        free = λ w stands. elim (k.free w stands) [
          | inl l ↦ by w l (nat_eq v w) refl
          | inr l ↦ inr (or_second (nat_eq v w) (contains piece.over w) l)
        ];
        sign = k.sign;
        minus = k.minus;
      }
        where
          away : (b : Bool) → contains piece.over v ≡ b → b ≡ false
          away false e = refl
          away true e =
              contradiction (contains bound v) (each_of (λ w. contains bound w ≡ true) piece.over k.over v e) none

          by : (w : ℕ) → st w ≡ true → (b : Bool) → nat_eq v w ≡ b → (outside w ≡ true) ⊎ ((nat_eq v w || contains piece.over w) ≡ true)
          by w l true e = inr (or_first (nat_eq v w) (contains piece.over w) e)
          by w l false e = inl (kept w l (λ same. eqb-false v w e (sym same)))

  -- a sum that was opened, by the leaf at which it stands
  abbrev pub IsOpened : List (List ℕ) → Opened → Type 0
  IsOpened bounds o =
      ArePiecesOf m (λ p. m.leaf p o.leaf) (λ v. stands_in m.accesses v (AccessOf o.leaf)) (bound_in bounds (AccessOf o.leaf)) o.pieces

  module _ (bounds : List (List ℕ)) where
    abbrev IsLeaf : ℕ → List Piece → Type 0
    IsLeaf k ps = ArePiecesOf m (λ p. m.leaf p k) (λ v. stands_in m.accesses v (AccessOf k)) (bound_in bounds (AccessOf k)) ps

    at_leaf : (opened : List Opened) (k : ℕ) → Each (IsOpened bounds) opened → IsLeaf k (pieces_at opened k)
    at_leaf [] k each = whole_is (AccessOf k) (bound_in bounds (AccessOf k)) (λ h. cc)
    at_leaf (o ∷ opened) k each = by (nat_eq o.leaf k) refl (at_leaf opened k each.1)
      where
        by : (b : Bool) → nat_eq o.leaf k ≡ b → IsLeaf k (pieces_at opened k) → IsLeaf k (cond b o.pieces (pieces_at opened k))
        by true e rest = subst (λ j. IsLeaf j o.pieces) (eqb-true o.leaf k e) each.0
        by false e rest = rest

    module _ (opened : List Opened) (each : Each (IsOpened bounds) opened) where
      two : (b : Bool) (e : Expr) (ps : List Piece)
          → ArePiecesOf m (λ p. meaning m p e) (λ v. stands_in m.accesses v e) (bound_in bounds e) (whole_piece e ∷ [])
          → ArePiecesOf m (λ p. meaning m p e) (λ v. stands_in m.accesses v e) (bound_in bounds e) ps
          → ArePiecesOf m (λ p. meaning m p e) (λ v. stands_in m.accesses v e) (bound_in bounds e) (cond b (whole_piece e ∷ []) ps)
      two true e ps whole parts = whole
      two false e ps whole parts = parts

      mutual
        -- the pieces of an expression add up to it
        pub pieces_are : (e : Expr) → IsClear m.accesses bounds e → (has_minus e ≡ true → Squares m.a)
            → ArePiecesOf m (λ p. meaning m p e) (λ v. stands_in m.accesses v e) (bound_in bounds e) (pieces opened e)
        pieces_are (Num n) clear square = whole_is (Num n) [] (λ h. cc)
        pieces_are (AccessOf k) clear square = at_leaf opened k each
        pieces_are (Binary' o r e t f) clear square =
            two (is_whole_in opened e && is_whole_in opened f) (Binary' o r e t f)
            (pieces_of_sides o (pieces_in opened e) (pieces_in opened f))
            (whole_is (Binary' o r e t f) (bound_inside bounds e ++ bound_inside bounds f) square)
            (sides_are (λ v. stands_inside m.accesses v e) (λ v. stands_inside m.accesses v f) (bound_inside bounds e)
            (bound_inside bounds f)
            o (λ p. meaning_in m p e) (λ p. meaning_in m p f) (pieces_in opened e) (pieces_in opened f) clear.0 clear.1
            (λ h. square (or_first (is_minus o) (has_minus_in e || has_minus_in f) h))
            (pieces_in_are e clear.2 (λ h. square (or_second (is_minus o) (has_minus_in e || has_minus_in f)
            (or_first (has_minus_in e) (has_minus_in f) h))))
            (pieces_in_are f clear.3 (λ h. square (or_second (is_minus o) (has_minus_in e || has_minus_in f)
            (or_second (has_minus_in e) (has_minus_in f) h)))))
        pieces_are (Neg' r e) clear square =
            two (is_whole_in opened e) (Neg' r e) (map negated_piece (pieces_in opened e))
            (whole_is (Neg' r e) (bound_inside bounds e) square)
            (negated_are (λ p. meaning_in m p e) (λ v. stands_inside m.accesses v e) (bound_inside bounds e) (pieces_in opened e)
            (square refl) (pieces_in_are e clear (λ h. square refl)))

        pieces_in_are : {r : _} (e : Row_of-Expr r) → IsClear_in m.accesses bounds e → (has_minus_in e ≡ true → Squares m.a)
            → ArePiecesOf m (λ p. meaning_in m p e) (λ v. stands_inside m.accesses v e) (bound_inside bounds e) (pieces_in opened e)
        pieces_in_are end_of-Expr clear square = record { adds = λ p. refl; each = tt }
        pieces_in_are (more_of-Expr e rest) clear square = pieces_are e clear square
