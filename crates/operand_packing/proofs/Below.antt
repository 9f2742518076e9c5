-- Coordinates below the ranges of an access's variables.
use Rattle.std.specs.Prelude.{◌≡◌, ℕ, zero, suc, ◌<◌, List, [], ◌∷◌, length, map, slice_index}
use Rattle.std.proofs.Common.{arith}
use Rattle.tensor_map.specs.Entries.{Entry}
use Rattle.tns_io.specs.Positions.{IsBelow}

abbrev pub HasCoordsBelow : List ℕ → Entry → Type 0
HasCoordsBelow ranges entry = IsBelow ranges entry.coords

-- coordinate by coordinate
pub below_each : (ranges : ℕ → ℕ) (vars coords : List ℕ) → IsBelow (map ranges vars) coords
    → (mode : ℕ) → mode < length vars → slice_index coords mode < ranges (slice_index vars mode)
below_each ranges [] coords below mode h = absurd (omega arith)
below_each ranges (v ∷ vars) [] below mode h = absurd below
below_each ranges (v ∷ vars) (c ∷ coords) below zero h = below.0
below_each ranges (v ∷ vars) (c ∷ coords) below (suc mode) h = below_each ranges vars coords below.1 mode (omega arith)

pub below_from_each : (ranges : ℕ → ℕ) (vars coords : List ℕ) → length coords ≡ length vars
    → ((mode : ℕ) → mode < length vars → slice_index coords mode < ranges (slice_index vars mode)) → IsBelow (map ranges vars) coords
below_from_each ranges [] [] long each = tt
below_from_each ranges [] (c ∷ coords) long each = absurd (omega arith)
below_from_each ranges (v ∷ vars) [] long each = absurd (omega arith)
below_from_each ranges (v ∷ vars) (c ∷ coords) long each =
    (each 0 (omega arith), below_from_each ranges vars coords (omega arith) (λ mode h. each (suc mode) (omega arith)))

pub below_length : (ranges : ℕ → ℕ) (vars coords : List ℕ) → IsBelow (map ranges vars) coords → length coords ≡ length vars
below_length ranges [] [] below = omega arith
below_length ranges [] (c ∷ coords) below = absurd below
below_length ranges (v ∷ vars) [] below = absurd below
below_length ranges (v ∷ vars) (c ∷ coords) below = let rest = below_length ranges vars coords below.1 in omega arith
