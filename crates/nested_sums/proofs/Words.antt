-- Values as words: sums and products don't tell a value from itself added to zero, which is a word.
use Rattle.std.specs.Prelude.{◌≡◌, ℕ, zero, suc, ◌<◌, ◌^◌, refl}
use Rattle.std.proofs.Common.{◌∙◌, sym, ap}
use Rattle.numbers.specs.Arithmetic.{Arithmetic, Laws}
use Rattle.numbers.specs.Sums.{sum_below}
use Rattle.numbers.proofs.Sums.{plus_pairs, sum_fits}
use Rattle.index_notation.specs.declared.operator.Operator.{Operator}
use Rattle.index_notation.specs.declared.operator.Operator.TheVariants as op
use Rattle.expr_terms.specs.Value.{applied, minus}

abbrev pub word_of : Arithmetic → ℕ → ℕ
word_of a x = a.plus x a.zero

module _ (a : Arithmetic) (laws : Laws a) where
  pub word_fits : (x : ℕ) → word_of a x < 2 ^ 64
  word_fits x = laws.plus_fits x a.zero

  plus_words : (x y : ℕ) → a.plus (word_of a x) (word_of a y) ≡ a.plus x y
  plus_words x y =
      plus_pairs a laws x a.zero y a.zero ∙ ap (a.plus (a.plus x y)) (laws.plus_zero a.zero laws.zero_fits)
      ∙ laws.plus_zero (a.plus x y) (laws.plus_fits x y)

  pub plus_first_word : (x y : ℕ) → y < 2 ^ 64 → a.plus (word_of a x) y ≡ a.plus x y
  plus_first_word x y word = ap (a.plus (word_of a x)) (sym (laws.plus_zero y word)) ∙ plus_words x y

  times_word : (x y : ℕ) → a.times x (word_of a y) ≡ a.times x y
  times_word x y =
      laws.distributes x y a.zero ∙ ap (a.plus (a.times x y)) (laws.times_zero x) ∙ laws.plus_zero (a.times x y) (laws.times_fits x y)

  times_words : (x y : ℕ) → a.times (word_of a x) (word_of a y) ≡ a.times x y
  times_words x y =
      times_word (word_of a x) y ∙ laws.times_comm (word_of a x) y ∙ times_word y x ∙ laws.times_comm y x

  pub word_of_minus : (x : ℕ) → word_of a (minus a x) ≡ minus a (word_of a x)
  word_of_minus x = laws.plus_zero (minus a x) (laws.times_fits a.minus_one x) ∙ sym (times_word a.minus_one x)

  pub word_of_applied : (o : Operator) (x y : ℕ) → word_of a (applied a o x y) ≡ applied a o (word_of a x) (word_of a y)
  word_of_applied op.Add x y = laws.plus_zero (a.plus x y) (laws.plus_fits x y) ∙ sym (plus_words x y)
  word_of_applied op.Sub x y =
      laws.plus_zero (a.plus x (minus a y)) (laws.plus_fits x (minus a y)) ∙ sym (plus_words x (minus a y))
      ∙ ap (a.plus (word_of a x)) (word_of_minus y)
  word_of_applied op.Mul x y = laws.plus_zero (a.times x y) (laws.times_fits x y) ∙ sym (times_words x y)

  pub sum_of_words : (n : ℕ) (f : ℕ → ℕ) → sum_below a n f ≡ sum_below a n (λ x. word_of a (f x))
  sum_of_words zero f = refl
  sum_of_words (suc n) f =
      ap (a.plus (f n)) (sum_of_words n f)
      ∙ sym (plus_first_word (f n) (sum_below a n (λ x. word_of a (f x))) (sum_fits a laws n (λ x. word_of a (f x))))
