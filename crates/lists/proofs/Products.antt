-- Products of numbers.
use Rattle.std.proofs.Common.{◌≡◌, ℕ, zero, suc, ◌*◌, ◌<◌, arith, mul-zero}

-- a factor of a product that something is below
pub factor_positive : (i n p : ℕ) → i < n * p → 0 < p
factor_positive i n zero h = let none : n * 0 ≡ 0 = mul-zero n in absurd (omega arith)
factor_positive i n (suc p) h = omega arith
