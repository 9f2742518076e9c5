-- Words, added and multiplied modulo 2^64.
use Rattle.std.specs.Prelude.{ℕ, ◌+◌, ◌-◌, ◌*◌, ◌%◌, ◌^◌}
use Rattle.numbers.specs.Arithmetic.{Arithmetic}

-- the sum, the difference and the product of two words: what a machine computes
unfoldable pub word_sum : ℕ → ℕ → ℕ
word_sum x y = (x + y) % 2 ^ 64

unfoldable pub word_difference : ℕ → ℕ → ℕ
word_difference x y = (x + (2 ^ 64 - y)) % 2 ^ 64

unfoldable pub word_product : ℕ → ℕ → ℕ
word_product x y = (x * y) % 2 ^ 64

-- the whole numbers modulo 2^64
unfoldable pub ring : Arithmetic
ring = record {
  zero = 0;
  one = 1;
  minus_one = 2 ^ 64 - 1;
  plus = word_sum;
  times = word_product;
}
