-- What a packed tensor tells of the entries that it was packed from.
use Rattle.std.specs.Prelude.{◌≡◌, ℕ, List, length, All, slice_index}
use Rattle.numbers.specs.Arithmetic.{Arithmetic}
use Rattle.format_spec.specs.declared.format.FormatLevel.{FormatLevel}
use Rattle.format_spec.specs.Formats.{IsFormat}
use Rattle.tensor_map.specs.Entries.{Entry, IsEntry, Listed, value_at, StrictlyIncreasing}
use Rattle.tensor_storage.specs.Arranged.{AreInside, IsPackedFrom}
use Rattle.tensor_storage.specs.Storages.{Storage, EndsAt}

-- the path with some coordinates ends at the value that the entries have there; where there is no such path they have zero; and there
-- is one for each coordinate list that they name
pub record TellsEntries (a : Arithmetic) (entries : List Entry) (storage : Storage) (coords : List ℕ) : Type 0 where
  pub stored : (pos : ℕ) → EndsAt storage coords pos → slice_index storage.values pos ≡ value_at a entries coords
  pub absent : ((pos : ℕ) → EndsAt storage coords pos → ⊥) → value_at a entries coords ≡ a.zero
  pub named : Listed entries coords → (pos : ℕ) × EndsAt storage coords pos

abbrev pub PackedTellEntries : Arithmetic → Type 0
PackedTellEntries a = (format : List FormatLevel) (ranges : List ℕ) (entries : List Entry) (storage : Storage)
    → IsFormat format → length ranges ≡ length format → All (IsEntry (length format)) entries → StrictlyIncreasing entries
    → AreInside ranges entries → IsPackedFrom a.zero format ranges entries storage
    → (coords : List ℕ) → length coords ≡ length format → TellsEntries a entries storage coords
