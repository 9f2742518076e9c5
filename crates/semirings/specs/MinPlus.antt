-- Lengths: the sum is the lesser of two, and the product adds them and stops at 2^64 - 1, which is no way at all.
use Rattle.std.specs.Prelude.{◌≡◌, ◌≢◌, ℕ, ◌+◌, ◌-◌, ◌^◌, ◌<◌, min, true, false, [], codes, refl}
use Rattle.std.proofs.Common.{arith, ap, lit<}
use Rattle.numbers.specs.Arithmetic.{Arithmetic, WordLaws, Laws, MinusLaws, on_words}
use Rattle.numbers.specs.Names.{IsName}
use Rattle.numbers.specs.OnWords.{laws_on_words, plus_of_words, times_of_words}
use Rattle.numbers.specs.Ring.{ring}

-- both lengths together, below a cap
abbrev pub together : ℕ → ℕ → ℕ → ℕ
together cap x y = min (x + y) cap

unfoldable pub lengths : Arithmetic
lengths = record {
  zero = 2 ^ 64 - 1;
  one = 0;
  minus_one = 0;
  plus = min;
  times = together (2 ^ 64 - 1);
}

min_fits : (c x y : ℕ) → x < c + 1 → min x y < c + 1
min_fits c x y h = omega arith

together_fits : (c x y : ℕ) → together c x y < c + 1
together_fits c x y = omega arith

plus_comm_at : (x y : ℕ) → min x y ≡ min y x
plus_comm_at x y = omega arith

plus_assoc_at : (x y z : ℕ) → min (min x y) z ≡ min x (min y z)
plus_assoc_at x y z = omega arith

times_comm_at : (c x y : ℕ) → together c x y ≡ together c y x
times_comm_at c x y = omega arith

times_assoc_at : (c x y z : ℕ) → together c (together c x y) z ≡ together c x (together c y z)
times_assoc_at c x y z = omega arith

plus_zero_at : (c x : ℕ) → x < c + 1 → min x c ≡ x
plus_zero_at c x h = omega arith

times_one_at : (c x : ℕ) → x < c + 1 → together c x 0 ≡ x
times_one_at c x h = omega arith

times_zero_at : (c x : ℕ) → together c x c ≡ c
times_zero_at c x = omega arith

distributes_at : (c x y z : ℕ) → together c x (min y z) ≡ min (together c x y) (together c x z)
distributes_at c x y z = omega arith

pub length_word_laws : WordLaws lengths
unfolding lengths
length_word_laws = record {
  zero_fits = lit< tt;
  one_fits = lit< tt;
  plus_fits = λ x y h _. min_fits (2 ^ 64 - 1) x y h;
  times_fits = λ x y _ _. together_fits (2 ^ 64 - 1) x y;
  plus_comm = λ x y _ _. plus_comm_at x y;
  plus_assoc = λ x y z _ _ _. plus_assoc_at x y z;
  times_comm = λ x y _ _. times_comm_at (2 ^ 64 - 1) x y;
  times_assoc = λ x y z _ _ _. times_assoc_at (2 ^ 64 - 1) x y z;
  plus_zero = plus_zero_at (2 ^ 64 - 1);
  times_one = times_one_at (2 ^ 64 - 1);
  times_zero = λ x _. times_zero_at (2 ^ 64 - 1) x;
  distributes = λ x y z _ _ _. distributes_at (2 ^ 64 - 1) x y z;
}

pub length_laws : Laws (on_words lengths)
length_laws = laws_on_words lengths length_word_laws

-- there is no minus
pub no_minus_of_lengths : false ≡ true → MinusLaws (on_words lengths)
no_minus_of_lengths e = cc

pub lengths_are_told_apart : false ≡ true → on_words lengths ≡ ring
lengths_are_told_apart e = cc

-- one is no way more to go, and the word 1 in the ring
ones_differ : (x y : ℕ) → x ≡ 0 → y ≡ 1 → x ≡ y → ⊥
ones_differ x y h g e = omega (arith, h, g, e)

pub lengths_are_no_ring : false ≡ false → on_words lengths ≢ ring
unfolding lengths ring
lengths_are_no_ring e same = ones_differ _ _ refl refl (ap (λ (a : Arithmetic). a.one) same)

minplus_has_letters : codes "minplus" ≢ []
minplus_has_letters e = cc

pub minplus_is_named : IsName (codes "minplus")
minplus_is_named = record { some = minplus_has_letters; letters = refl }

-- of two lengths, without remainders
pub plus_of_lengths : (x y : ℕ) → x < 2 ^ 64 → y < 2 ^ 64 → (on_words lengths).plus x y ≡ min x y
unfolding lengths
plus_of_lengths x y h g = plus_of_words lengths x y h g

pub times_of_lengths : (x y : ℕ) → x < 2 ^ 64 → y < 2 ^ 64 → (on_words lengths).times x y ≡ min (x + y) (2 ^ 64 - 1)
unfolding lengths
times_of_lengths x y h g = times_of_words lengths x y h g
