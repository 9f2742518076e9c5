-- Words keep the laws: what the ghost members of the ring cite.
use Rattle.std.specs.Prelude.{◌≡◌, ◌≢◌, true, false, ℕ, ◌+◌, ◌-◌, ◌*◌, ◌%◌, ◌^◌, refl}
use Rattle.std.proofs.Common.{◌∙◌, sym, ap, arith, mul-zero, add_comm, add_assoc, lit<}
use Rattle.std.proofs.Math.Nat.{mod-add-mod, add-mod-mod, mul_comm, mul_assoc, mul-add, mod-eq_of_lt, mul-one}
use Rattle.std.proofs.lemmas.Nat.{mul-mod_first, mul-mod_second, mod_below}
use Rattle.numbers.specs.Arithmetic.{WordLaws, Laws, MinusLaws, on_words}
use Rattle.numbers.specs.Ring.{word_sum, word_product, ring}

-- the laws, for any modulus
plus_assoc_mod : (x y z m : ℕ) → ((x + y) % m + z) % m ≡ (x + (y + z) % m) % m
plus_assoc_mod x y z m = mod-add-mod (x + y) m z ∙ ap (λ n. n % m) (add_assoc x y z) ∙ sym (add-mod-mod x (y + z) m)

times_assoc_mod : (x y z m : ℕ) → ((x * y) % m * z) % m ≡ (x * ((y * z) % m)) % m
times_assoc_mod x y z m = mul-mod_first (x * y) z m ∙ ap (λ n. n % m) (mul_assoc x y z) ∙ sym (mul-mod_second x (y * z) m)

distributes_mod : (x y z m : ℕ) → (x * ((y + z) % m)) % m ≡ ((x * y) % m + (x * z) % m) % m
distributes_mod x y z m =
    mul-mod_second x (y + z) m ∙ ap (λ n. n % m) (mul-add x y z) ∙ sym (mod-add-mod (x * y) m ((x * z) % m) ∙ add-mod-mod (x * y) (x * z) m)

-- words keep the laws
pub ring_laws : Laws ring
unfolding ring word_sum word_product
ring_laws = record {
  zero_fits = lit< tt;
  one_fits = lit< tt;
  plus_fits = λ x y. mod_below (x + y) (2 ^ 64) (lit< tt);
  times_fits = λ x y. mod_below (x * y) (2 ^ 64) (lit< tt);
  plus_comm = λ x y. ap (λ n. n % 2 ^ 64) (add_comm x y);
  plus_assoc = λ x y z. plus_assoc_mod x y z (2 ^ 64);
  times_comm = λ x y. ap (λ n. n % 2 ^ 64) (mul_comm x y);
  times_assoc = λ x y z. times_assoc_mod x y z (2 ^ 64);
  plus_zero = λ x h. ap (λ n. n % 2 ^ 64) (omega arith) ∙ mod-eq_of_lt h;
  times_one = λ x h. ap (λ n. n % 2 ^ 64) (mul-one x) ∙ mod-eq_of_lt h;
  times_zero = λ x. ap (λ n. n % 2 ^ 64) (mul-zero x);
  distributes = λ x y z. distributes_mod x y z (2 ^ 64);
}

-- told of words alone
pub ring_word_laws : WordLaws ring
ring_word_laws = record {
  zero_fits = ring_laws.zero_fits;
  one_fits = ring_laws.one_fits;
  plus_fits = λ x y _ _. ring_laws.plus_fits x y;
  times_fits = λ x y _ _. ring_laws.times_fits x y;
  plus_comm = λ x y _ _. ring_laws.plus_comm x y;
  plus_assoc = λ x y z _ _ _. ring_laws.plus_assoc x y z;
  times_comm = λ x y _ _. ring_laws.times_comm x y;
  times_assoc = λ x y z _ _ _. ring_laws.times_assoc x y z;
  plus_zero = ring_laws.plus_zero;
  times_one = ring_laws.times_one;
  times_zero = λ x _. ring_laws.times_zero x;
  distributes = λ x y z _ _ _. ring_laws.distributes x y z;
}

-- remainders have the same sums and products
sum_of_remainders : (x y m : ℕ) → (x % m + y % m) % m ≡ (x + y) % m
sum_of_remainders x y m = mod-add-mod x m (y % m) ∙ add-mod-mod x y m

product_of_remainders : (x y m : ℕ) → (x % m * (y % m)) % m ≡ (x * y) % m
product_of_remainders x y m = mul-mod_first x (y % m) m ∙ mul-mod_second x y m

pub ring_on_words : on_words ring ≡ ring
unfolding ring word_sum word_product
ring_on_words = λ i. record {
  zero = 0;
  one = 1;
  minus_one = 2 ^ 64 - 1;
  plus = λ x y. sum_of_remainders x y (2 ^ 64) i;
  times = λ x y. product_of_remainders x y (2 ^ 64) i;
}

pub ring_minus_laws : MinusLaws ring
unfolding ring word_sum
ring_minus_laws = record { minus_one_fits = lit< tt; cancels = refl }

-- the ring is never told to be none
pub true_is_not_false : true ≡ false → ring ≢ ring
true_is_not_false e = cc
