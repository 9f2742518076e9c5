-- What follows from the definition of presence, whatever tells the paths of a tensor.
use Rattle.std.specs.Prelude.{◌≡◌, ℕ, Bool, false, List}
use Rattle.numbers.specs.Arithmetic.{Arithmetic}

-- a tensor is zero where it has no path
abbrev pub AreZeroElsewhere : Arithmetic → (ℕ → List ℕ → Bool) → (ℕ → List ℕ → ℕ) → Type 0
AreZeroElsewhere a paths values = (tensor : ℕ) (coords : List ℕ) → paths tensor coords ≡ false → values tensor coords ≡ a.zero
