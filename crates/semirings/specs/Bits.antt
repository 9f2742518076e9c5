-- Flags, one a bit: the sum has those of either word, and the product those of both.
use Rattle.std.specs.Prelude.{◌≡◌, ◌≢◌, ℕ, ◌-◌, ◌^◌, ◌<◌, ◌≤◌, min, max, true, false, [], codes, bit_and, bit_or, refl}
use Rattle.std.specs.Int.{bit_at}
use Rattle.std.proofs.Common.{◌∙◌, arith, ap, sym, lit<}
use Rattle.std.proofs.Math.Nat.{mod-eq_of_lt}
use Rattle.std.proofs.lemmas.Nat.{and_comm, and_le_l, and_le_r, and_mask, or_comm, or_lt}
use Rattle.std.proofs.lemmas.Nat.Bits.{bit_at-zero, bit_at_and, bit_at_or, same_from_bits}
use Rattle.numbers.specs.Arithmetic.{Arithmetic, WordLaws, Laws, MinusLaws, on_words}
use Rattle.numbers.specs.Names.{IsName}
use Rattle.numbers.specs.OnWords.{laws_on_words, plus_of_words, times_of_words}
use Rattle.numbers.specs.Ring.{ring}

unfoldable pub flags : Arithmetic
flags = record {
  zero = 0;
  one = 2 ^ 64 - 1;
  minus_one = 0;
  plus = bit_or;
  times = bit_and;
}

-- the laws of one bit
max_assoc : (a b c : ℕ) → max (max a b) c ≡ max a (max b c)
max_assoc a b c = omega arith

min_assoc : (a b c : ℕ) → min (min a b) c ≡ min a (min b c)
min_assoc a b c = omega arith

min_max : (a b c : ℕ) → min a (max b c) ≡ max (min a b) (min a c)
min_max a b c = omega arith

max_zero : (a : ℕ) → max a 0 ≡ a
max_zero a = omega arith

none_left : (a : ℕ) → a ≤ 0 → a ≡ 0
none_left a h = omega arith

below : (a b c : ℕ) → a ≤ b → b < c → a < c
below a b c h g = omega arith

or_assoc : (x y z : ℕ) → bit_or (bit_or x y) z ≡ bit_or x (bit_or y z)
or_assoc x y z = same_from_bits _ _ (λ i.
    bit_at_or (bit_or x y) z i ∙ ap (λ b. max b (bit_at z i)) (bit_at_or x y i) ∙ max_assoc (bit_at x i) (bit_at y i) (bit_at z i)
    ∙ sym (bit_at_or x (bit_or y z) i ∙ ap (max (bit_at x i)) (bit_at_or y z i)))

and_assoc : (x y z : ℕ) → bit_and (bit_and x y) z ≡ bit_and x (bit_and y z)
and_assoc x y z = same_from_bits _ _ (λ i.
    bit_at_and (bit_and x y) z i ∙ ap (λ b. min b (bit_at z i)) (bit_at_and x y i) ∙ min_assoc (bit_at x i) (bit_at y i) (bit_at z i)
    ∙ sym (bit_at_and x (bit_and y z) i ∙ ap (min (bit_at x i)) (bit_at_and y z i)))

or_none : (x : ℕ) → bit_or x 0 ≡ x
or_none x = same_from_bits _ _ (λ i. bit_at_or x 0 i ∙ ap (max (bit_at x i)) (bit_at-zero i) ∙ max_zero (bit_at x i))

and_over_or : (x y z : ℕ) → bit_and x (bit_or y z) ≡ bit_or (bit_and x y) (bit_and x z)
and_over_or x y z = same_from_bits _ _ (λ i.
    bit_at_and x (bit_or y z) i ∙ ap (min (bit_at x i)) (bit_at_or y z i) ∙ min_max (bit_at x i) (bit_at y i) (bit_at z i)
    ∙ sym (bit_at_or (bit_and x y) (bit_and x z) i ∙ ap (λ b. max b (bit_at (bit_and x z) i)) (bit_at_and x y i)
    ∙ ap (max (min (bit_at x i) (bit_at y i))) (bit_at_and x z i)))

pub flag_word_laws : WordLaws flags
unfolding flags
flag_word_laws = record {
  zero_fits = lit< tt;
  one_fits = lit< tt;
  plus_fits = λ x y h g. or_lt 64 x y h g;
  times_fits = λ x y h _. below (bit_and x y) x (2 ^ 64) (and_le_l x y) h;
  plus_comm = λ x y _ _. or_comm x y;
  plus_assoc = λ x y z _ _ _. or_assoc x y z;
  times_comm = λ x y _ _. and_comm x y;
  times_assoc = λ x y z _ _ _. and_assoc x y z;
  plus_zero = λ x _. or_none x;
  times_one = λ x h. and_mask x 64 ∙ mod-eq_of_lt h;
  times_zero = λ x _. none_left (bit_and x 0) (and_le_r x 0);
  distributes = λ x y z _ _ _. and_over_or x y z;
}

pub flag_laws : Laws (on_words flags)
flag_laws = laws_on_words flags flag_word_laws

-- there is no minus
pub no_minus_of_flags : false ≡ true → MinusLaws (on_words flags)
no_minus_of_flags e = cc

pub flags_are_told_apart : false ≡ true → on_words flags ≡ ring
flags_are_told_apart e = cc

-- one is all flags, and the word 1 in the ring
ones_differ : (x y : ℕ) → x ≡ 2 ^ 64 - 1 → y ≡ 1 → x ≡ y → ⊥
ones_differ x y h g e = omega (arith, h, g, e)

pub flags_are_no_ring : false ≡ false → on_words flags ≢ ring
unfolding flags ring
flags_are_no_ring e same = ones_differ _ _ refl refl (ap (λ (a : Arithmetic). a.one) same)

bits_has_letters : codes "bits" ≢ []
bits_has_letters e = cc

pub bits_is_named : IsName (codes "bits")
bits_is_named = record { some = bits_has_letters; letters = refl }

-- of two words, without remainders
pub plus_of_flags : (x y : ℕ) → x < 2 ^ 64 → y < 2 ^ 64 → (on_words flags).plus x y ≡ bit_or x y
unfolding flags
plus_of_flags x y h g = plus_of_words flags x y h g

pub times_of_flags : (x y : ℕ) → x < 2 ^ 64 → y < 2 ^ 64 → (on_words flags).times x y ≡ bit_and x y
unfolding flags
times_of_flags x y h g = times_of_words flags x y h g
