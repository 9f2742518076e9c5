-- The values of a statement's expressions, as words, and what its nested sums mean among them.
use Rattle.std.specs.Prelude.{◌≡◌, ℕ, ◌+◌, Bool, true, false, List, [], ◌∷◌, length, map, Some, slice_get, refl}
use Rattle.std.proofs.Common.{◌∙◌, sym, ap}
use Rattle.numbers.specs.Arithmetic.{Arithmetic, Laws}
use Rattle.numbers.specs.Sums.{sum_below, total_of}
use Rattle.numbers.proofs.Sums.{sum_same, sum_fits, total_fits}
use Rattle.lists.specs.Each.{Each}
use Rattle.index_notation.specs.Statement.{IsNumberedWithSums}
use Rattle.index_notation.specs.declared.syntax.Access.{Access}
use Rattle.index_notation.specs.declared.syntax.Expr.{Expr, Num, Access as AccessOf, Binary', Neg', Row_of-Expr, end_of-Expr, more_of-Expr}
use Rattle.index_notation.specs.declared.syntax.NestedSum.{NestedSum}
use Rattle.index_notation.specs.declared.syntax.Statement.{Statement}
use Rattle.expr_terms.specs.Nested.{flat, flat_values}
use Rattle.expr_terms.specs.Points.{with_coordinate, sum_over}
use Rattle.expr_terms.specs.Signs.{signed_value}
use Rattle.expr_terms.specs.Value.{access_value_or_zero, applied, value_of, value_of_in, minus}
use Rattle.expr_terms.specs.ValueLaws.{AgreeAt}
use Rattle.expr_terms.proofs.NestedValues.{sum_is_read, read_is_kept}
use Rattle.expr_terms.proofs.ValueLaws.{access_or_zero_same}
use Rattle.nested_sums.specs.Bound.{bounds}
use Rattle.nested_sums.proofs.BoundVariables.{bound_by_sum}
use Rattle.nested_sums.proofs.FreeVariables.{free_outside}
use Rattle.nested_sums.proofs.Meaning.{Meaning, meaning, meaning_in}
use Rattle.nested_sums.specs.Multiplied.{with_sums}
use Rattle.nested_sums.proofs.OpenedSums.{IsReadBy}
use Rattle.nested_sums.proofs.Tellings.{Telling, Tells, meaning_at}
use Rattle.nested_sums.proofs.Words.{word_of, word_fits, word_of_minus, word_of_applied, sum_of_words, plus_first_word}

pub agreeing : (values : ℕ → List ℕ → ℕ) (accesses : List Access) → Each (AgreeAt values values) accesses
agreeing values [] = tt
agreeing values (access ∷ accesses) = ((λ coords h. refl), agreeing values accesses)

abbrev pub value_telling : (a : Arithmetic) → Laws a → (ℕ → List ℕ → ℕ) → (ℕ → ℕ) → Telling
value_telling a laws values ranges = record {
  a = a;
  laws = laws;
  num = word_of a;
  num_fits = word_fits a laws;
  ranges = ranges;
  leaf = λ s p k. word_of a (access_value_or_zero a (flat_values a s values ranges) p (slice_get (flat s).accesses k));
  leaf_fits = λ s p k. word_fits a laws (access_value_or_zero a (flat_values a s values ranges) p (slice_get (flat s).accesses k));
  local = λ s k p q same. ap (word_of a)
      (access_or_zero_same a (flat_values a s values ranges) (flat_values a s values ranges) p q (flat s).accesses k
      (agreeing (flat_values a s values ranges) (flat s).accesses) same);
}

abbrev pub value_meaning : (a : Arithmetic) → Laws a → Statement → (ℕ → List ℕ → ℕ) → (ℕ → ℕ) → Meaning
value_meaning a laws s values ranges = meaning_at (value_telling a laws values ranges) s

-- a sum of words over variables
pub sum_over_words : (a : Arithmetic) → Laws a → (ranges : ℕ → ℕ) (vs : List ℕ) (f : (ℕ → ℕ) → ℕ) (p : ℕ → ℕ)
    → word_of a (sum_over a ranges vs f p) ≡ sum_over a ranges vs (λ q. word_of a (f q)) p
sum_over_words a laws ranges [] f p = refl
sum_over_words a laws ranges (v ∷ vs) f p =
    laws.plus_zero (sum_below a (ranges v) (λ x. sum_over a ranges vs f (with_coordinate p v x)))
    (sum_fits a laws (ranges v) (λ x. sum_over a ranges vs f (with_coordinate p v x)))
    ∙ sum_of_words a laws (ranges v) (λ x. sum_over a ranges vs f (with_coordinate p v x))
    ∙ sum_same a (ranges v) (λ x. word_of a (sum_over a ranges vs f (with_coordinate p v x)))
    (λ x. sum_over a ranges vs (λ q. word_of a (f q)) (with_coordinate p v x))
    (λ x h. sum_over_words a laws ranges vs f (with_coordinate p v x))

-- a total doesn't tell a value from its word
pub total_of_words : {A : Type 0} (a : Arithmetic) → Laws a → (f g : A → ℕ) → ((x : A) → word_of a (f x) ≡ g x) → (xs : List A)
    → total_of a (map f xs) ≡ total_of a (map g xs)
total_of_words a laws f g same [] = refl
total_of_words a laws f g same (x ∷ xs) =
    ap (a.plus (f x)) (total_of_words a laws f g same xs)
    ∙ sym (plus_first_word a laws (f x) (total_of a (map g xs)) (total_fits a laws (map g xs)))
    ∙ ap (λ y. a.plus y (total_of a (map g xs))) (same x)

pub word_of_signed : (a : Arithmetic) → Laws a → (b : Bool) (x : ℕ) → word_of a (signed_value a b x) ≡ signed_value a b (word_of a x)
word_of_signed a laws true x = word_of_minus a laws x
word_of_signed a laws false x = refl

module _ (a : Arithmetic) (laws : Laws a) (s : Statement) (values : ℕ → List ℕ → ℕ) (ranges : ℕ → ℕ) where
  mutual
    -- an expression means its value
    pub means_value : (p : ℕ → ℕ) (e : Expr)
        → meaning (value_meaning a laws s values ranges) p e ≡ word_of a (value_of a (flat_values a s values ranges) (flat s).accesses p e)
    means_value p (Num n) = refl
    means_value p (AccessOf k) = refl
    means_value p (Binary' o r e q f) =
        (λ i. applied a o (means_value_in p e i) (means_value_in p f i))
        ∙ sym (word_of_applied a laws o (value_of_in a (flat_values a s values ranges) (flat s).accesses p e)
        (value_of_in a (flat_values a s values ranges) (flat s).accesses p f))
    means_value p (Neg' r e) =
        ap (minus a) (means_value_in p e)
        ∙ sym (word_of_minus a laws (value_of_in a (flat_values a s values ranges) (flat s).accesses p e))

    means_value_in : {r : _} (p : ℕ → ℕ) (e : Row_of-Expr r)
        → meaning_in (value_meaning a laws s values ranges) p e
        ≡ word_of a (value_of_in a (flat_values a s values ranges) (flat s).accesses p e)
    means_value_in p end_of-Expr = sym (laws.plus_zero a.zero laws.zero_fits)
    means_value_in p (more_of-Expr e rest) = means_value p e

  -- and a nested sum what it adds up
  pub sum_means : IsNumberedWithSums s → (i : ℕ) (sum : NestedSum) → slice_get s.sums i ≡ Some sum
      → IsReadBy (value_meaning a laws s values ranges) (bounds s) (length s.accesses + i) sum
  sum_means h i sum at =
      let told = flat_values a s values ranges in
      let all = (flat s).accesses in
      record {
        value = λ p.
            ap (word_of a) (sum_is_read a s h values ranges i sum at p)
            ∙ laws.plus_zero (sum_below a (ranges sum.var) (λ x. value_of a told all (with_coordinate p sum.var x) sum.inside))
            (sum_fits a laws (ranges sum.var) (λ x. value_of a told all (with_coordinate p sum.var x) sum.inside))
            ∙ sum_of_words a laws (ranges sum.var) (λ x. value_of a told all (with_coordinate p sum.var x) sum.inside)
            ∙ sum_same a (ranges sum.var) (λ x. word_of a (value_of a told all (with_coordinate p sum.var x) sum.inside))
            (λ x. meaning (value_meaning a laws s values ranges) (with_coordinate p sum.var x) sum.inside)
            (λ x below. sym (means_value (with_coordinate p sum.var x) sum.inside));
        bound = bound_by_sum s h i sum at;
        free = λ v stands other. free_outside s h i sum at v stands other;
      }

pub value_tells : (a : Arithmetic) (laws : Laws a) (values : ℕ → List ℕ → ℕ) (ranges : ℕ → ℕ) → Tells (value_telling a laws values ranges)
value_tells a laws values ranges = record {
  sums = λ s h i sum at. sum_means a laws s values ranges h i sum at;
  accesses = λ s h sums expr other k below p. ap (word_of a)
      (read_is_kept a (with_sums s sums expr) other values ranges p (AccessOf k) below
      ∙ sym (read_is_kept a s h values ranges p (AccessOf k) below));
}
