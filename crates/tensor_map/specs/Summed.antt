-- A row in which equal neighbours are added.
use Rattle.std.specs.Prelude.{◌≡◌, ℕ, All, ◌↔◌, nat_eq, cond, List, [], ◌∷◌}
use Rattle.std.specs.Cmp.Lexicographic.{pointwise}
use Rattle.numbers.specs.Arithmetic.{Arithmetic}
use Rattle.tensor_map.specs.Entries.{Entry, IsEntry, value_at, Listed, StrictlyIncreasing}

-- the first entry with the value of the next added to its own
abbrev pub joined : Arithmetic → Entry → Entry → Entry
joined a entry next = record { coords = entry.coords; value = a.plus entry.value next.value }

-- an entry takes up what follows it with the same coordinates
abbrev pub summed_from : Arithmetic → Entry → List Entry → List Entry
summed_from a entry [] = entry ∷ []
summed_from a entry (next ∷ others) =
    cond (pointwise nat_eq next.coords entry.coords) (summed_from a (joined a entry next) others) (entry ∷ summed_from a next others)

abbrev pub summed : Arithmetic → List Entry → List Entry
summed a [] = []
summed a (entry ∷ others) = summed_from a entry others

-- what sorting and adding make of a row
pub record SortsAndAdds (a : Arithmetic) (old new : List Entry) : Type 0 where
  pub values : (coords : List ℕ) → value_at a new coords ≡ value_at a old coords
  pub listed : (coords : List ℕ) → Listed new coords ↔ Listed old coords
  pub increasing : StrictlyIncreasing new
  pub each : (order : ℕ) → All (IsEntry order) old → All (IsEntry order) new
