-- Tests of numbers, and what their answers say.
use Rattle.std.proofs.Common.{◌≡◌, ℕ, ◌≤◌, ◌<◌, nat_le, Bool, true, false, ◌==◌, ◌&&◌, refl, arith}
use Rattle.std.proofs.lemmas.Bool.Decides.{nat_tests}

pub both_true : (a b : Bool) → (a && b) ≡ true → (a ≡ true) × (b ≡ true)
both_true true b h = (refl, h)
both_true false b h = cc

pub same_number : (n m : ℕ) → (n == m) ≡ true → n ≡ m
same_number n m h = grind (arith, nat_tests)

pub number_same : (n : ℕ) → (n == n) ≡ true
number_same n = grind (arith, nat_tests)

pub number_apart : (n m : ℕ) → (n ≡ m → ⊥) → (n == m) ≡ false
number_apart n m h = grind (arith, nat_tests)

pub test_within : (m n : ℕ) → m ≤ n → nat_le m n ≡ true
test_within m n h = grind (arith, nat_tests)

pub test_beyond : (m n : ℕ) → n < m → nat_le m n ≡ false
test_beyond m n h = grind (arith, nat_tests)

pub within_tested : (m n : ℕ) → nat_le m n ≡ true → m ≤ n
within_tested m n h = grind (arith, nat_tests)
