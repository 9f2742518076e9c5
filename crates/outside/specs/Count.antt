-- A count that never falls and stands still at the end of its type.
use Rattle.std.specs.Prelude.{ℕ, ◌-◌, ◌^◌, ◌<◌, ◌≤◌}

-- the count is greater than before, or stands at its type's end
abbrev pub Rose : ℕ → ℕ → Type 0
Rose old new = new < 2 ^ 64 - 1 → old < new

-- the count rose, and hasn't fallen
pub record Rises (old new : ℕ) : Type 0 where
  pub rose : Rose old new
  pub grows : old ≤ new
