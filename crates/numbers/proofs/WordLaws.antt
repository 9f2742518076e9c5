-- The laws of the ring one by one, for tactics, and that a machine computes the ring.
use Rattle.std.specs.Prelude.{◌≡◌, ℕ, zero, suc, ◌+◌, ◌-◌, ◌*◌, ◌%◌, ◌^◌, ◌<◌, refl}
use Rattle.std.proofs.Common.{◌∙◌, sym, ap, arith, mul-zero}
use Rattle.std.proofs.Math.Nat.{add-mod-mod, mod-eq_of_lt, add-mul-mod_self_right}
use Rattle.numbers.specs.Ring.{word_sum, word_difference, word_product, ring}
use Rattle.numbers.specs.RingLaws.{ring_laws}

-- each law by itself, for tactics
pub zero_fits : ring.zero < 2 ^ 64
zero_fits = ring_laws.zero_fits

pub one_fits : ring.one < 2 ^ 64
one_fits = ring_laws.one_fits

pub plus_fits : (x y : ℕ) → ring.plus x y < 2 ^ 64
plus_fits = ring_laws.plus_fits

pub times_fits : (x y : ℕ) → ring.times x y < 2 ^ 64
times_fits = ring_laws.times_fits

pub plus_comm : (x y : ℕ) → ring.plus x y ≡ ring.plus y x
plus_comm = ring_laws.plus_comm

pub plus_assoc : (x y z : ℕ) → ring.plus (ring.plus x y) z ≡ ring.plus x (ring.plus y z)
plus_assoc = ring_laws.plus_assoc

pub times_comm : (x y : ℕ) → ring.times x y ≡ ring.times y x
times_comm = ring_laws.times_comm

pub times_assoc : (x y z : ℕ) → ring.times (ring.times x y) z ≡ ring.times x (ring.times y z)
times_assoc = ring_laws.times_assoc

pub plus_zero : (x : ℕ) → x < 2 ^ 64 → ring.plus x ring.zero ≡ x
plus_zero = ring_laws.plus_zero

pub zero_plus : (x : ℕ) → x < 2 ^ 64 → ring.plus ring.zero x ≡ x
zero_plus x h = ring_laws.plus_comm ring.zero x ∙ ring_laws.plus_zero x h

pub times_one : (x : ℕ) → x < 2 ^ 64 → ring.times x ring.one ≡ x
times_one = ring_laws.times_one

pub one_times : (x : ℕ) → x < 2 ^ 64 → ring.times ring.one x ≡ x
one_times x h = ring_laws.times_comm ring.one x ∙ ring_laws.times_one x h

pub times_zero : (x : ℕ) → ring.times x ring.zero ≡ ring.zero
times_zero = ring_laws.times_zero

pub zero_times : (x : ℕ) → ring.times ring.zero x ≡ ring.zero
zero_times x = ring_laws.times_comm ring.zero x ∙ ring_laws.times_zero x

pub distributes : (x y z : ℕ) → ring.times x (ring.plus y z) ≡ ring.plus (ring.times x y) (ring.times x z)
distributes = ring_laws.distributes

-- zero is the word 0, and one the word 1
pub zero_is_zero : ring.zero ≡ 0
unfolding ring
zero_is_zero = refl

pub one_is_one : ring.one ≡ 1
unfolding ring
one_is_one = refl

-- the machine's operations are those of the ring
pub sum_is_plus : (x y : ℕ) → word_sum x y ≡ ring.plus x y
unfolding ring
sum_is_plus x y = refl

pub product_is_times : (x y : ℕ) → word_product x y ≡ ring.times x y
unfolding ring
product_is_times x y = refl

split_product : (n k : ℕ) → k < n → n * suc k ≡ ((n + 1) - suc k) + k * (n + 1)
split_product n k h = omega arith

-- minus one times y is what y lacks of the modulus n + 1
negated : (y n : ℕ) → y < n + 1 → (n * y) % (n + 1) ≡ ((n + 1) - y) % (n + 1)
negated zero n h = let whole : (n + 1) - 0 ≡ 0 + 1 * (n + 1) = omega arith in
    ap (λ k. k % (n + 1)) (mul-zero n) ∙ sym (ap (λ k. k % (n + 1)) whole ∙ add-mul-mod_self_right 0 1 (n + 1))
negated (suc k) n h = ap (λ k. k % (n + 1)) (split_product n k (omega arith)) ∙ add-mul-mod_self_right ((n + 1) - suc k) k (n + 1)

difference_mod : (x y n : ℕ) → y < n + 1 → (x + ((n + 1) - y)) % (n + 1) ≡ (x + (n * y) % (n + 1)) % (n + 1)
difference_mod x y n h = sym (ap (λ k. (x + k) % (n + 1)) (negated y n h) ∙ add-mod-mod x ((n + 1) - y) (n + 1))

-- a difference of words is the sum of the one and minus one times the other
pub difference_is_plus : (x y : ℕ) → y < 2 ^ 64 → word_difference x y ≡ ring.plus x (ring.times ring.minus_one y)
unfolding ring word_difference word_sum word_product
difference_is_plus x y h = difference_mod x y (2 ^ 64 - 1) h

-- a sum and a product that fit a word are the numbers' own
pub word_sum_is : (x y : ℕ) → x + y < 2 ^ 64 → word_sum x y ≡ x + y
unfolding word_sum
word_sum_is x y h = mod-eq_of_lt h

pub word_product_is : (x y : ℕ) → x * y < 2 ^ 64 → word_product x y ≡ x * y
unfolding word_product
word_product_is x y h = mod-eq_of_lt h
