-- Every sum that is left in pieces is inner.
use Rattle.std.specs.Prelude.{◌≡◌, ℕ, suc, ◌+◌, ◌<◌, ◌≤◌, Bool, true, false, not}
use Rattle.std.specs.Prelude.{nat_eq, cond, ◌||◌, ◌&&◌, List, [], ◌∷◌, ◌++◌, length, map}
use Rattle.std.specs.Prelude.{Some, slice_get, refl}
use Rattle.std.proofs.Common.{◌∙◌, sym, ap, subst, arith}
use Rattle.std.proofs.Math.Bool.{or-true}
use Rattle.std.proofs.lemmas.Bool.{eqb-true, eqb-false}
use Rattle.std.proofs.lemmas.List.Folds.{list_any-append}
use Rattle.lists.specs.Each.{Each}
use Rattle.lists.proofs.Each.{each_append}
use Rattle.lists.proofs.Tests.{both_true}
use Rattle.index_notation.specs.Statement.{AccessesUnder, AccessesUnder_in}
use Rattle.index_notation.specs.declared.operator.Operator.{Operator}
use Rattle.index_notation.specs.declared.operator.Operator.TheVariants as op
use Rattle.index_notation.specs.declared.syntax.Expr.{Expr, Num, Access as AccessOf, Binary', Neg', Row_of-Expr, end_of-Expr}
use Rattle.index_notation.specs.declared.syntax.Expr.{more_of-Expr}
use Rattle.index_notation.specs.declared.syntax.NestedSum.{NestedSum}
use Rattle.nested_sums.specs.Pieces.{Piece, Opened, whole_piece, negated_piece}
use Rattle.nested_sums.specs.Pieces.{summed_piece, piece_product, piece_products, pieces_of_sides}
use Rattle.nested_sums.specs.Pieces.{is_opened, pieces_at, is_whole, is_whole_in, pieces, pieces_in, opened_sum, opened_sums}
use Rattle.nested_sums.proofs.Leaves.{EachLeaf, EachLeaf_in, leaf_product}
use Rattle.nested_sums.proofs.AddedPieces.{contradiction, each_map, or_first}

-- the number of an access or an inner sum, of so many accesses and sums
abbrev pub IsGood : (ℕ → Bool) → ℕ → ℕ → ℕ → Type 0
IsGood is_inner count most k = (k < most) × ((n : ℕ) → k ≡ count + n → is_inner n ≡ true)

module _ (is_inner : ℕ → Bool) (count most : ℕ) where
  abbrev pub IsInnerPiece : Piece → Type 0
  IsInnerPiece piece = EachLeaf (IsGood is_inner count most) piece.factors

  abbrev pub AreInnerPieces : Opened → Type 0
  AreInnerPieces o = Each IsInnerPiece o.pieces

  -- the first n sums were opened where they aren't inner
  abbrev pub AreCovered : ℕ → List Opened → Type 0
  AreCovered n opened = (i : ℕ) → i < n → is_inner i ≡ false → is_opened opened (count + i) ≡ true

  product_inner : (first second : Piece) → IsInnerPiece first → IsInnerPiece second → IsInnerPiece (piece_product first second)
  product_inner first second h g = leaf_product (IsGood is_inner count most) op.Mul first.factors second.factors h g

  products_inner : (ps qs : List Piece) → Each IsInnerPiece ps → Each IsInnerPiece qs → Each IsInnerPiece (piece_products ps qs)
  products_inner [] qs h g = tt
  products_inner (first ∷ ps) qs h g =
      each_append IsInnerPiece (map (piece_product first) qs) (piece_products ps qs)
      (each_map IsInnerPiece IsInnerPiece (piece_product first) (λ second k. product_inner first second h.0 k) qs g)
      (products_inner ps qs h.1 g)

  negated_inner : (ps : List Piece) → Each IsInnerPiece ps → Each IsInnerPiece (map negated_piece ps)
  negated_inner ps h = each_map IsInnerPiece IsInnerPiece negated_piece (λ piece k. k) ps h

  sides_inner : (o : Operator) (ps qs : List Piece) → Each IsInnerPiece ps → Each IsInnerPiece qs
      → Each IsInnerPiece (pieces_of_sides o ps qs)
  sides_inner op.Add ps qs h g = each_append IsInnerPiece ps qs h g
  sides_inner op.Sub ps qs h g = each_append IsInnerPiece ps (map negated_piece qs) h (negated_inner qs g)
  sides_inner op.Mul ps qs h g = products_inner ps qs h g

  module _ (n : ℕ) (opened : List Opened) (few : count + n ≤ most) (covered : AreCovered n opened) where
    leaf_inner : (k : ℕ) → k < count + n → is_opened opened k ≡ false → EachLeaf (IsGood is_inner count most) (AccessOf k)
    leaf_inner k under closed = (omega (arith, under, few), (λ i is. by i is (is_inner i) refl))
      where
        by : (i : ℕ) → k ≡ count + i → (b : Bool) → is_inner i ≡ b → b ≡ true
        by i is true e = refl
        by i is false e =
            contradiction (is_opened opened k) (ap (is_opened opened) is ∙ covered i (omega (arith, under, is)) e) closed

    not_true : (b : Bool) → not b ≡ true → b ≡ false
    not_true true h = cc
    not_true false h = refl

    mutual
      whole_inner : (e : Expr) → AccessesUnder (count + n) e → is_whole opened e ≡ true → EachLeaf (IsGood is_inner count most) e
      whole_inner (Num k) under whole = tt
      whole_inner (AccessOf k) under whole = leaf_inner k under (not_true (is_opened opened k) whole)
      whole_inner (Binary' o p e q f) under whole =
          let both = both_true (is_whole_in opened e) (is_whole_in opened f) whole in
          (whole_inner_in e under.0 both.0, whole_inner_in f under.1 both.1)
      whole_inner (Neg' p e) under whole = whole_inner_in e under whole

      whole_inner_in : {m : _} (e : Row_of-Expr m) → AccessesUnder_in (count + n) e → is_whole_in opened e ≡ true
          → EachLeaf_in (IsGood is_inner count most) e
      whole_inner_in end_of-Expr under whole = tt
      whole_inner_in (more_of-Expr e rest) under whole = whole_inner e under whole

    at_inner : (os : List Opened) (k : ℕ) → Each AreInnerPieces os → (is_opened os k ≡ false
        → EachLeaf (IsGood is_inner count most) (AccessOf k))
        → Each IsInnerPiece (pieces_at os k)
    at_inner [] k each leaf = (leaf refl, tt)
    at_inner (o ∷ os) k each leaf = by (nat_eq o.leaf k) refl (at_inner os k each.1)
      where
        by : (b : Bool) → nat_eq o.leaf k ≡ b
            → ((is_opened os k ≡ false → EachLeaf (IsGood is_inner count most) (AccessOf k)) → Each IsInnerPiece (pieces_at os k))
            → Each IsInnerPiece (cond b o.pieces (pieces_at os k))
        by true e rest = each.0
        by false e rest = rest (λ closed. leaf (ap (λ b. b || is_opened os k) e ∙ closed))

    module _ (each : Each AreInnerPieces opened) where
      two : (b : Bool) (e : Expr) (ps : List Piece) → (b ≡ true → EachLeaf (IsGood is_inner count most) e) → Each IsInnerPiece ps
          → Each IsInnerPiece (cond b (whole_piece e ∷ []) ps)
      two true e ps whole parts = (whole refl, tt)
      two false e ps whole parts = parts

      mutual
        pub pieces_inner : (e : Expr) → AccessesUnder (count + n) e → Each IsInnerPiece (pieces opened e)
        pieces_inner (Num k) under = (tt, tt)
        pieces_inner (AccessOf k) under = at_inner opened k each (leaf_inner k under)
        pieces_inner (Binary' o p e q f) under =
            two (is_whole_in opened e && is_whole_in opened f) (Binary' o p e q f)
            (pieces_of_sides o (pieces_in opened e) (pieces_in opened f))
            (λ whole. whole_inner (Binary' o p e q f) under whole)
            (sides_inner o (pieces_in opened e) (pieces_in opened f) (pieces_inner_in e under.0) (pieces_inner_in f under.1))
        pieces_inner (Neg' p e) under =
            two (is_whole_in opened e) (Neg' p e) (map negated_piece (pieces_in opened e)) (λ whole. whole_inner (Neg' p e) under whole)
            (negated_inner (pieces_in opened e) (pieces_inner_in e under))

        pieces_inner_in : {m : _} (e : Row_of-Expr m) → AccessesUnder_in (count + n) e → Each IsInnerPiece (pieces_in opened e)
        pieces_inner_in end_of-Expr under = tt
        pieces_inner_in (more_of-Expr e rest) under = pieces_inner e under

  summed_inner : (v : ℕ) (ps : List Piece) → Each IsInnerPiece ps → Each IsInnerPiece (map (summed_piece v) ps)
  summed_inner v ps h = each_map IsInnerPiece IsInnerPiece (summed_piece v) (λ piece k. k) ps h

  -- with one sum more
  opened_more : (opened : List Opened) (o : Opened) (k : ℕ) → is_opened (opened ++ (o ∷ [])) k
      ≡ (is_opened opened k || (nat_eq o.leaf k || false))
  opened_more opened o k = list_any-append (λ (x : Opened). nat_eq x.leaf k) opened (o ∷ [])

  covered_more : (n : ℕ) (opened : List Opened) (o : Opened) → o.leaf ≡ count + n → AreCovered n opened
      → AreCovered (n + 1) (opened ++ (o ∷ []))
  covered_more n opened o at covered = λ i below outer. opened_more opened o (count + i) ∙ by i below outer (nat_eq o.leaf (count + i)) refl
    where
      by : (i : ℕ) → i < n + 1 → is_inner i ≡ false → (b : Bool) → nat_eq o.leaf (count + i) ≡ b
          → (is_opened opened (count + i) || (b || false)) ≡ true
      by i below outer true e = or-true (is_opened opened (count + i))
      by i below outer false e =
          let apart = eqb-false o.leaf (count + i) e in
          or_first (is_opened opened (count + i)) (false || false)
          (covered i (omega (arith, below, at, apart)) outer)

  covered_inner : (n : ℕ) (opened : List Opened) → is_inner n ≡ true → AreCovered n opened → AreCovered (n + 1) opened
  covered_inner n opened inner covered = λ i below outer. by i below outer (nat_eq i n) refl
    where
      by : (i : ℕ) → i < n + 1 → is_inner i ≡ false → (b : Bool) → nat_eq i n ≡ b → is_opened opened (count + i) ≡ true
      by i below outer true e = contradiction (is_inner i) (ap is_inner (eqb-true i n e) ∙ inner) outer
      by i below outer false e = let apart = eqb-false i n e in covered i (omega (arith, below, apart)) outer

  pub all_inner : (n : ℕ) (opened : List Opened) (sums : List NestedSum) → count + (n + length sums) ≤ most → AreCovered n opened
      → Each AreInnerPieces opened → ((i : ℕ) (sum : NestedSum) → slice_get sums i ≡ Some sum → AccessesUnder (count + (n + i)) sum.inside)
      → AreCovered (n + length sums) (opened_sums is_inner count n opened sums)
      × Each AreInnerPieces (opened_sums is_inner count n opened sums)
  all_inner n opened [] few covered each under =
      let none : n + 0 ≡ n = omega arith in
      (subst (λ k. AreCovered k opened) (sym none) covered, each)
  all_inner n opened (sum ∷ sums) few covered each under =
      let o : Opened = opened_sum opened (count + n) sum in
      let more : List Opened = cond (is_inner n) opened (opened ++ (o ∷ [])) in
      let now = by (is_inner n) refl in
      let rest = all_inner (n + 1) more sums (omega (arith, few)) now.0 now.1
      (λ i other at. let there : n + suc i ≡ n + 1 + i = omega arith in
      subst (λ j. AccessesUnder (count + j) other.inside) there (under (suc i) other at)) in
      let long : n + 1 + length sums ≡ n + suc (length sums) = omega arith in
      (subst (λ k. AreCovered k (opened_sums is_inner count (n + 1) more sums)) long rest.0, rest.1)
    where
      inside : AccessesUnder (count + n) sum.inside
      inside = let here : n + 0 ≡ n = omega arith in subst (λ j. AccessesUnder (count + j) sum.inside) here (under 0 sum refl)

      by : (b : Bool) → is_inner n ≡ b
          → AreCovered (n + 1) (cond b opened (opened ++ (opened_sum opened (count + n) sum ∷ [])))
          × Each AreInnerPieces (cond b opened (opened ++ (opened_sum opened (count + n) sum ∷ [])))
      by true e = (covered_inner n opened e covered, each)
      by false e = (
        covered_more n opened (opened_sum opened (count + n) sum) refl covered,
        each_append AreInnerPieces opened (opened_sum opened (count + n) sum ∷ []) each (
          summed_inner sum.var (pieces opened sum.inside)
              (pieces_inner n opened (omega (arith, few)) covered each sum.inside inside),
          tt,
        ),
      )
