-- The terms of an expression add up to what it means, each alone a term.
use Rattle.std.specs.Prelude.{◌≡◌, ℕ, Bool, true, ◌||◌, List, [], ◌∷◌, ◌++◌, map, refl}
use Rattle.std.proofs.Common.{◌∙◌, sym, ap}
use Rattle.std.proofs.lemmas.List.{map-append}
use Rattle.numbers.specs.Sums.{total_of}
use Rattle.numbers.proofs.Sums.{total_append}
use Rattle.lists.specs.Each.{Each}
use Rattle.lists.proofs.Each.{each_append}
use Rattle.index_notation.specs.Operators.{is_minus, is_product}
use Rattle.index_notation.specs.declared.operator.Operator.{Operator}
use Rattle.index_notation.specs.declared.operator.Operator.TheVariants as op
use Rattle.index_notation.specs.declared.syntax.Expr.{Expr, Num, Access as AccessOf, Binary', Neg', Row_of-Expr, end_of-Expr, more_of-Expr}
use Rattle.expr_terms.specs.Minus.{has_minus, has_minus_in}
use Rattle.expr_terms.specs.Signs.{signed_value}
use Rattle.expr_terms.specs.declared.term.Term.{Term}
use Rattle.expr_terms.specs.Terms.{terms, terms_in, terms_of_sides, plain_term, negated_term, stands_in, stands_inside}
use Rattle.expr_terms.specs.Value.{applied, minus}
use Rattle.nested_sums.proofs.AddedPieces.{each_as, each_map, or_first, or_second}
use Rattle.nested_sums.proofs.Meaning.{Meaning, meaning, meaning_in, meaning_fits}
use Rattle.nested_sums.proofs.PieceValues.{Squares, signed_not}

module _ (m : Meaning) where
  abbrev pub term_meaning : (ℕ → ℕ) → Term → ℕ
  term_meaning p t = signed_value m.a t.negated (meaning m p t.expr)

  -- a term of an expression in which some variables stand
  pub record IsTermOf (stands : ℕ → Bool) (t : Term) : Type 0 where
    pub sign : t.negated ≡ true → Squares m.a
    pub free : (v : ℕ) → stands_in m.accesses v t.expr ≡ true → stands v ≡ true
    pub one : terms t.expr ≡ plain_term t.expr ∷ []

  pub record AreTermsOf (value : (ℕ → ℕ) → ℕ) (stands : ℕ → Bool) (ts : List Term) : Type 0 where
    pub adds : (p : ℕ → ℕ) → total_of m.a (map (term_meaning p) ts) ≡ value p
    pub each : Each (IsTermOf stands) ts

  both_mean : (p : ℕ → ℕ) (ts us : List Term) → total_of m.a (map (term_meaning p) (ts ++ us))
      ≡ m.a.plus (total_of m.a (map (term_meaning p) ts)) (total_of m.a (map (term_meaning p) us))
  both_mean p ts us =
      ap (total_of m.a) (map-append (term_meaning p) ts us)
      ∙ total_append m.a m.laws (map (term_meaning p) ts) (map (term_meaning p) us)

  negated_mean : (stands : ℕ → Bool) (p : ℕ → ℕ) (ts : List Term) → Each (IsTermOf stands) ts
      → total_of m.a (map (term_meaning p) (map negated_term ts)) ≡ minus m.a (total_of m.a (map (term_meaning p) ts))
  negated_mean stands p [] each = sym (m.laws.times_zero m.a.minus_one)
  negated_mean stands p (t ∷ ts) each =
      ap (λ x. m.a.plus x (total_of m.a (map (term_meaning p) (map negated_term ts))))
      (signed_not m.a m.laws t.negated each.0.sign (meaning m p t.expr) (meaning_fits m p t.expr))
      ∙ ap (m.a.plus (minus m.a (term_meaning p t))) (negated_mean stands p ts each.1)
      ∙ sym (m.laws.distributes m.a.minus_one (term_meaning p t) (total_of m.a (map (term_meaning p) ts)))

  negated_terms : (f : (ℕ → ℕ) → ℕ) (stands : ℕ → Bool) (ts : List Term) → Squares m.a → AreTermsOf f stands ts
      → AreTermsOf (λ p. minus m.a (f p)) stands (map negated_term ts)
  negated_terms f stands ts square h = record {
    adds = λ p. negated_mean stands p ts h.each ∙ ap (minus m.a) (h.adds p);
    each = each_map (IsTermOf stands) (IsTermOf stands) negated_term
        (λ t k. record { sign = λ n. square; free = k.free; one = k.one }) ts h.each;
  }

  module _ (st st' : ℕ → Bool) where
    wide_first : (t : Term) → IsTermOf st t → IsTermOf (λ v. st v || st' v) t
    wide_first t h = record { sign = h.sign; free = λ v k. or_first (st v) (st' v) (h.free v k); one = h.one }

    wide_second : (t : Term) → IsTermOf st' t → IsTermOf (λ v. st v || st' v) t
    wide_second t h = record { sign = h.sign; free = λ v k. or_second (st v) (st' v) (h.free v k); one = h.one }

    terms_of_both : (o : Operator) (whole : Expr) (f f' : (ℕ → ℕ) → ℕ) (ts us : List Term) → (is_minus o ≡ true → Squares m.a)
        → ((p : ℕ → ℕ) → meaning m p whole ≡ applied m.a o (f p) (f' p))
        → ((v : ℕ) → stands_in m.accesses v whole ≡ true → (st v || st' v) ≡ true)
        → (is_product o ≡ true → terms whole ≡ plain_term whole ∷ [])
        → AreTermsOf f st ts → AreTermsOf f' st' us
        → AreTermsOf (λ p. applied m.a o (f p) (f' p)) (λ v. st v || st' v) (terms_of_sides o whole ts us)
    terms_of_both op.Add whole f f' ts us square means free one h g = record {
      adds = λ p. both_mean p ts us ∙ (λ i. m.a.plus (h.adds p i) (g.adds p i));
      each = each_append (IsTermOf (λ v. st v || st' v)) ts us
          (each_as (IsTermOf st) (IsTermOf (λ v. st v || st' v)) wide_first ts h.each)
          (each_as (IsTermOf st') (IsTermOf (λ v. st v || st' v)) wide_second us g.each);
    }
    terms_of_both op.Sub whole f f' ts us square means free one h g =
        let less = negated_terms f' st' us (square refl) g in
        record {
          adds = λ p. both_mean p ts (map negated_term us) ∙ (λ i. m.a.plus (h.adds p i) (less.adds p i));
          each = each_append (IsTermOf (λ v. st v || st' v)) ts (map negated_term us)
              (each_as (IsTermOf st) (IsTermOf (λ v. st v || st' v)) wide_first ts h.each)
              (each_as (IsTermOf st') (IsTermOf (λ v. st v || st' v)) wide_second (map negated_term us) less.each);
        }
    terms_of_both op.Mul whole f f' ts us square means free one h g = record {
      adds = λ p. m.laws.plus_zero (meaning m p whole) (meaning_fits m p whole) ∙ means p;
      each = (record { sign = λ k. cc; free = free; one = one refl }, tt);
    }

  leaf_term : (e : Expr) → terms e ≡ plain_term e ∷ [] → AreTermsOf (λ p. meaning m p e) (λ v. stands_in m.accesses v e) (plain_term e ∷ [])
  leaf_term e one = record {
    adds = λ p. m.laws.plus_zero (meaning m p e) (meaning_fits m p e);
    each = (record { sign = λ k. cc; free = λ v h. h; one = one }, tt);
  }

  product_alone : (o : Operator) (whole : Expr) (ts us : List Term) → is_product o ≡ true
      → terms_of_sides o whole ts us ≡ plain_term whole ∷ []
  product_alone op.Add whole ts us h = cc
  product_alone op.Sub whole ts us h = cc
  product_alone op.Mul whole ts us h = refl

  mutual
    pub terms_are : (e : Expr) → (has_minus e ≡ true → Squares m.a)
        → AreTermsOf (λ p. meaning m p e) (λ v. stands_in m.accesses v e) (terms e)
    terms_are (Num n) square = leaf_term (Num n) refl
    terms_are (AccessOf k) square = leaf_term (AccessOf k) refl
    terms_are (Binary' o r e t f) square =
        terms_of_both (λ v. stands_inside m.accesses v e) (λ v. stands_inside m.accesses v f) o (Binary' o r e t f)
        (λ p. meaning_in m p e) (λ p. meaning_in m p f) (terms_in e) (terms_in f)
        (λ h. square (or_first (is_minus o) (has_minus_in e || has_minus_in f) h)) (λ p. refl) (λ v h. h)
        (product_alone o (Binary' o r e t f) (terms_in e) (terms_in f))
        (terms_in_are e (λ h. square (or_second (is_minus o) (has_minus_in e || has_minus_in f)
        (or_first (has_minus_in e) (has_minus_in f) h))))
        (terms_in_are f (λ h. square (or_second (is_minus o) (has_minus_in e || has_minus_in f)
        (or_second (has_minus_in e) (has_minus_in f) h))))
    terms_are (Neg' r e) square =
        negated_terms (λ p. meaning_in m p e) (λ v. stands_inside m.accesses v e) (terms_in e) (square refl)
        (terms_in_are e (λ h. square refl))

    terms_in_are : {r : _} (e : Row_of-Expr r) → (has_minus_in e ≡ true → Squares m.a)
        → AreTermsOf (λ p. meaning_in m p e) (λ v. stands_inside m.accesses v e) (terms_in e)
    terms_in_are end_of-Expr square = record { adds = λ p. refl; each = tt }
    terms_in_are (more_of-Expr e rest) square = terms_are e square
