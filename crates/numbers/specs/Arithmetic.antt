-- How values are added and multiplied, whatever the values are.
use Rattle.std.specs.Prelude.{◌≡◌, ℕ, ◌<◌, ◌^◌, ◌%◌, Bool, true, false, Option, Some, None}

-- zero, one, the number by which a negated term is multiplied, sums and products
pub record Arithmetic : Type 0 where
  pub zero : ℕ
  pub one : ℕ
  pub minus_one : ℕ
  pub plus : ℕ → ℕ → ℕ
  pub times : ℕ → ℕ → ℕ

-- the laws of sums and products of words, which whoever gives an arithmetic has to prove: each speaks of numbers below 2^64 alone
pub record WordLaws (a : Arithmetic) : Type 0 where
  pub zero_fits : a.zero < 2 ^ 64
  pub one_fits : a.one < 2 ^ 64
  pub plus_fits : (x y : ℕ) → x < 2 ^ 64 → y < 2 ^ 64 → a.plus x y < 2 ^ 64
  pub times_fits : (x y : ℕ) → x < 2 ^ 64 → y < 2 ^ 64 → a.times x y < 2 ^ 64
  pub plus_comm : (x y : ℕ) → x < 2 ^ 64 → y < 2 ^ 64 → a.plus x y ≡ a.plus y x
  pub plus_assoc : (x y z : ℕ) → x < 2 ^ 64 → y < 2 ^ 64 → z < 2 ^ 64 → a.plus (a.plus x y) z ≡ a.plus x (a.plus y z)
  pub times_comm : (x y : ℕ) → x < 2 ^ 64 → y < 2 ^ 64 → a.times x y ≡ a.times y x
  pub times_assoc : (x y z : ℕ) → x < 2 ^ 64 → y < 2 ^ 64 → z < 2 ^ 64 → a.times (a.times x y) z ≡ a.times x (a.times y z)
  pub plus_zero : (x : ℕ) → x < 2 ^ 64 → a.plus x a.zero ≡ x
  pub times_one : (x : ℕ) → x < 2 ^ 64 → a.times x a.one ≡ x
  pub times_zero : (x : ℕ) → x < 2 ^ 64 → a.times x a.zero ≡ a.zero
  pub distributes : (x y z : ℕ) → x < 2 ^ 64 → y < 2 ^ 64 → z < 2 ^ 64 → a.times x (a.plus y z) ≡ a.plus (a.times x y) (a.times x z)

-- the same sums and products of words, told of every number by its remainder of 2^64
abbrev pub on_words : Arithmetic → Arithmetic
on_words a = record {
  zero = a.zero;
  one = a.one;
  minus_one = a.minus_one;
  plus = λ x y. a.plus (x % 2 ^ 64) (y % 2 ^ 64);
  times = λ x y. a.times (x % 2 ^ 64) (y % 2 ^ 64);
}

-- the laws of sums and products told of every number; values are words, so the neutral laws speak of words
pub record Laws (a : Arithmetic) : Type 0 where
  pub zero_fits : a.zero < 2 ^ 64
  pub one_fits : a.one < 2 ^ 64
  pub plus_fits : (x y : ℕ) → a.plus x y < 2 ^ 64
  pub times_fits : (x y : ℕ) → a.times x y < 2 ^ 64
  pub plus_comm : (x y : ℕ) → a.plus x y ≡ a.plus y x
  pub plus_assoc : (x y z : ℕ) → a.plus (a.plus x y) z ≡ a.plus x (a.plus y z)
  pub times_comm : (x y : ℕ) → a.times x y ≡ a.times y x
  pub times_assoc : (x y z : ℕ) → a.times (a.times x y) z ≡ a.times x (a.times y z)
  pub plus_zero : (x : ℕ) → x < 2 ^ 64 → a.plus x a.zero ≡ x
  pub times_one : (x : ℕ) → x < 2 ^ 64 → a.times x a.one ≡ x
  pub times_zero : (x : ℕ) → a.times x a.zero ≡ a.zero
  pub distributes : (x y z : ℕ) → a.times x (a.plus y z) ≡ a.plus (a.times x y) (a.times x z)

-- where there is a minus: one and minus one cancel
pub record MinusLaws (a : Arithmetic) : Type 0 where
  pub minus_one_fits : a.minus_one < 2 ^ 64
  pub cancels : a.plus a.one a.minus_one ≡ a.zero

-- the number minus one, where there is a minus
abbrev pub IfMinus : Bool → ℕ → Option ℕ
IfMinus true m = Some m
IfMinus false m = None
