-- How often rows are gone over.
use Rattle.std.specs.Prelude.{◌≡◌, ℕ, zero, suc, ◌*◌, ◌<◌}
use Rattle.std.proofs.Common.{arith}
use Rattle.level_rows.specs.Placing.{times}
use Rattle.result_assembly.specs.Drained.{most_passes}

-- so many times a number
pub times_is : (p n : ℕ) → times p n ≡ p * n
times_is zero n = omega arith
times_is (suc p) n = let i = times_is p n in omega (arith, i)

-- where there is a level, twice for each
pub passes_are : (m : ℕ) → 0 < m → most_passes m ≡ 2 * m
passes_are zero some = absurd (omega (arith, some))
passes_are (suc m) some = omega arith
