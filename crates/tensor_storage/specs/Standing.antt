-- A storage stands for a table in a format with given ranges exactly where no level would have more positions than may be.
use Rattle.std.specs.Prelude.{◌≡◌, ℕ, ◌≤◌, List, length, All}
use Rattle.limits.specs.Limits.{greatest_position_count}
use Rattle.level_core.specs.declared.letter.Letter.{Letter}
use Rattle.level_rows.specs.Tables.{Increase}
use Rattle.format_spec.specs.declared.format.FormatLevel.{FormatLevel}
use Rattle.format_spec.specs.Formats.{IsFormat}
use Rattle.tensor_map.specs.Entries.{Entry, IsEntry, StrictlyIncreasing}
use Rattle.tensor_storage.specs.Arranged.{table_of, AreArranged, AreInside, IsPackedFrom}
use Rattle.tensor_storage.specs.Counts.{positions_from, positions_of, AreFew}
use Rattle.tensor_storage.specs.declared.level.StorageLevel.{StorageLevel}
use Rattle.tensor_storage.specs.Levels.{meaning}
use Rattle.tensor_storage.specs.Stands.{Stands, IsPacked}
use Rattle.tensor_storage.specs.Storages.{Storage, IsStorage, in_level_order}
use Rattle.tensor_storage.specs.Tables.{Table, AreBelow}

-- a storage that stands for the table
pub record IsThere (zero : ℕ) (format : List FormatLevel) (ranges : List ℕ) (table : Table) : Type 0 where
  pub storage : Storage
  pub packed : IsPacked zero format ranges table storage
  pub whole : IsStorage storage

-- there is one for rows that increase below ranges within the limit, where the coordinates tell few positions at each level
abbrev pub StandsWhereFew : Type 0
StandsWhereFew = (zero : ℕ) (format : List FormatLevel) (ranges : List ℕ) (table : Table) → IsFormat format
    → length ranges ≡ length format → All (λ range. range ≤ greatest_position_count) ranges
    → Increase table.coords (length format) table.count → AreBelow table (in_level_order format ranges)
    → AreFew (positions_of format ranges table) → IsThere zero format ranges table

-- where levels and values stand for a table, its coordinates tell few positions at each level
abbrev pub StandingAreFew : Type 0
StandingAreFew = (zero : ℕ) (letters : List Letter) (sizes : List ℕ) (table : Table) (levels : List StorageLevel) (values : List ℕ)
    → Stands meaning zero letters sizes table levels values → AreFew (positions_from table 0 1 letters sizes)

-- a storage that stands for the entries, all of them named
pub record IsThereFrom (zero : ℕ) (format : List FormatLevel) (ranges : List ℕ) (entries : List Entry) : Type 0 where
  pub storage : Storage
  pub packed : IsPackedFrom zero format ranges entries storage
  pub whole : IsStorage storage

-- increasing entries can be arranged for any format, and where their rows then tell few positions at each level there is a storage
-- that stands for them
pub record PacksWhereFew (zero : ℕ) (format : List FormatLevel) (ranges : List ℕ) (entries : List Entry) : Type 0 where
  pub numbers : List ℕ
  pub arranged : AreArranged format entries numbers
  pub there : AreFew (positions_of format ranges (table_of format entries numbers)) → IsThereFrom zero format ranges entries

abbrev pub EntriesPackWhereFew : Type 0
EntriesPackWhereFew = (zero : ℕ) (format : List FormatLevel) (ranges : List ℕ) (entries : List Entry) → IsFormat format
    → length ranges ≡ length format → All (λ range. range ≤ greatest_position_count) ranges
    → All (IsEntry (length format)) entries → StrictlyIncreasing entries → AreInside ranges entries
    → PacksWhereFew zero format ranges entries
