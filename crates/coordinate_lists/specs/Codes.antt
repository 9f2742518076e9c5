-- What the code of compressed and singleton levels reads and appends.
use Rattle.std.specs.Prelude.{◌≡◌, ℕ, ◌+◌, ◌≤◌, false, List, [], ◌∷◌, ◌++◌, length, Some}
use Rattle.limits.specs.Limits.{greatest_position_count}
use Rattle.kernel_code.specs.declared.syntax.Arr.{Arr}
use Rattle.kernel_code.specs.declared.syntax.Arr.TheVariants.{Coordinates}
use Rattle.kernel_code.specs.Arrays.{same_arr}
use Rattle.kernel_code.specs.Meaning.{State}

-- a coordinate appended to those of a level of the result, within the limit on positions, and nothing else written
pub record Appended (level x : ℕ) (coords : List ℕ) (s t : State) : Type 0 where
  pub array : t.arrays (Coordinates 0 level) ≡ Some (coords ++ x ∷ [])
  pub within : length coords + 1 ≤ greatest_position_count
  pub others : (a : Arr) → same_arr (Coordinates 0 level) a ≡ false → t.arrays a ≡ s.arrays a
