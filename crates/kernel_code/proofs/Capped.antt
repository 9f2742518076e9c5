-- Numbers of statements added up as words, which stay at the last word.
use Rattle.std.specs.Prelude.{◌≡◌, ℕ, ◌+◌, ◌^◌, ◌-◌, ◌<◌, min}
use Rattle.std.proofs.Common.{arith}
use Rattle.kernel_code.specs.Arrays.{word_count}

-- a statement and its one body
pub one_body : (x r body all : ℕ) → x ≡ word_count body → r ≡ min (x + 1) (2 ^ 64 - 1) → all ≡ 1 + body → r ≡ word_count all
unfolding word_count
one_body x r body all h g is = omega arith

-- a statement and its two bodies
pub two_bodies : (x y s r first second all : ℕ) → x ≡ word_count first → y ≡ word_count second → s ≡ min (x + y) (2 ^ 64 - 1)
    → r ≡ min (s + 1) (2 ^ 64 - 1) → all ≡ 1 + (first + second) → r ≡ word_count all
unfolding word_count
two_bodies x y s r first second all h g sum more is = omega arith

-- a statement more of those that are left
pub one_more : (count x r this rest left all : ℕ) → x ≡ word_count this → r ≡ min (count + x) (2 ^ 64 - 1) → left ≡ this + rest
    → word_count (count + left) ≡ word_count all → word_count (r + rest) ≡ word_count all
unfolding word_count
one_more count x r this rest left all h g is before = omega arith

-- no statement is left
pub none_more : (count left all : ℕ) → count < 2 ^ 64 → left ≡ 0 → word_count (count + left) ≡ word_count all → count ≡ word_count all
unfolding word_count
none_more count left all word none h = omega arith
