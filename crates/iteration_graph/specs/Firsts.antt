-- Laws of the first number that passes a test.
use Rattle.std.specs.Prelude.{◌≡◌, ℕ, ◌≤◌, ◌<◌, Bool, true, false}

-- what the first one is
pub record IsFirst (passes : ℕ → Bool) (from end v : ℕ) : Type 0 where
  pub here : from ≤ v
  pub within : v < end
  pub passes_it : passes v ≡ true
  pub others : (u : ℕ) → from ≤ u → u < v → passes u ≡ false
