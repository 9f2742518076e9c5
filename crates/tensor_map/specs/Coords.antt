-- Lists of coordinates: one number a mode of a tensor, from mode 0 on.
use Rattle.std.specs.Prelude.{◌≡◌, ℕ, ◌≤◌, List, length, All}
use Rattle.limits.specs.Limits.{greatest_order, greatest_position_count}
use Rattle.smallvec.specs.SmallVec.{SmallVec}

-- no more numbers than a tensor has modes, all of them in the value itself
abbrev pub IsInline : SmallVec ℕ → Type 0
IsInline numbers = (length numbers.items ≤ greatest_order) × (numbers.capacity ≡ greatest_order)

-- the ranges of a tensor's modes: few enough, and none too large
pub record IsShape (ranges : List ℕ) : Type 0 where
  pub short : length ranges ≤ greatest_order
  pub within : All (λ range. range ≤ greatest_position_count) ranges
