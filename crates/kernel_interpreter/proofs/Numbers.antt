-- Numbers of statements as words, counted on.
use Rattle.std.specs.Prelude.{◌≡◌, ℕ, zero, suc, ◌+◌, ◌-◌, ◌^◌, ◌<◌, min, refl}
use Rattle.std.proofs.Common.{◌∙◌, ap, arith}
use Rattle.kernel_code.specs.Arrays.{word_count}
use Rattle.kernel_code.specs.Meaning.{Outcome, Ended, Stuck, Over, More, number_behind, behind}

pub counted : (count statement r : ℕ) → 0 < count → r ≡ min (count + statement) (2 ^ 64 - 1) → r ≡ number_behind count statement
unfolding word_count
counted zero statement r l h = absurd (omega arith)
counted (suc count) statement r l h = h

word_zero : word_count 0 ≡ 0
unfolding word_count
word_zero = refl

word_on : (m n : ℕ) → word_count (word_count m + n) ≡ word_count (m + n)
unfolding word_count
word_on m n = omega arith

word_some : (m : ℕ) → 0 < word_count (suc m)
unfolding word_count
word_some m = omega arith

number_some : (m statement : ℕ) → 0 < m → number_behind m statement ≡ word_count (m + statement)
number_some zero statement l = absurd (omega arith)
number_some (suc m) statement l = refl

number_word : (n statement : ℕ) → number_behind (word_count n) statement ≡ number_behind n statement
number_word zero statement = ap (λ m. number_behind m statement) word_zero
number_word (suc n) statement = number_some (word_count (suc n)) statement (word_some n) ∙ word_on (suc n) statement

-- so many statements as a word count as they do
pub behind_word : (n : ℕ) (o : Outcome) → behind (word_count n) o ≡ behind n o
behind_word n (Ended s) = refl
behind_word n (Stuck t statement) = ap (Stuck t) (number_word n statement)
behind_word n (Over t a count) = refl
behind_word n More = refl
