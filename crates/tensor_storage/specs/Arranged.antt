-- The entries of a tensor as the rows that a format's levels take: arranged by their coordinates, level by level.
use Rattle.std.specs.Prelude.{ℕ, ◌<◌, List, [], length, All, slice_index, slice_index_or, IsPermutation}
use Rattle.std.specs.List.{range_with_len}
use Rattle.level_rows.specs.Tables.{Increase}
use Rattle.format_spec.specs.declared.format.FormatLevel.{FormatLevel}
use Rattle.tensor_map.specs.Entries.{Entry}
use Rattle.tensor_storage.specs.Counts.{positions_of}
use Rattle.tensor_storage.specs.Packed.{IsFirstAbove}
use Rattle.tensor_storage.specs.Stands.{IsPacked}
use Rattle.tensor_storage.specs.Storages.{Storage, in_level_order}
use Rattle.tensor_storage.specs.Tables.{Table}
use Rattle.tensor_storage.specs.declared.packing.PackRefusal.{PackRefusal}
use Rattle.tensor_storage.specs.declared.packing.PackRefusal.TheVariants.{Memory, SizeLimit}

-- what stands for an entry where there is none
abbrev pub no_entry : Entry
no_entry = record { coords = []; value = 0 }

-- the coordinates of the entry of this number, in the order of the levels
abbrev pub level_coords : List FormatLevel → List Entry → ℕ → List ℕ
level_coords format entries number = in_level_order format (slice_index_or entries number no_entry).coords

-- a row for each number in a list: the entry of that number
abbrev pub table_of : List FormatLevel → List Entry → List ℕ → Table
table_of format entries numbers = record {
  count = length numbers;
  coords = λ d i. slice_index (level_coords format entries (slice_index numbers i)) d;
  values = λ i. (slice_index_or entries (slice_index numbers i) no_entry).value;
}

-- the number of each entry stands once in the list, and the rows increase level by level
pub record AreArranged (format : List FormatLevel) (entries : List Entry) (numbers : List ℕ) : Type 0 where
  pub all : IsPermutation (range_with_len 0 (length entries)) numbers
  pub order : Increase (table_of format entries numbers).coords (length format) (length numbers)

-- each coordinate of each entry is below the range of its mode
abbrev pub AreInside : List ℕ → List Entry → Type 0
AreInside ranges entries =
    All (λ entry. (mode : ℕ) → mode < length ranges → slice_index entry.coords mode < slice_index ranges mode) entries

-- the storage stands for the entries, all of them named: for their rows as they are arranged for the format
pub record IsPackedFrom (zero : ℕ) (format : List FormatLevel) (ranges : List ℕ) (entries : List Entry) (storage : Storage) : Type 0 where
  pub numbers : List ℕ
  pub arranged : AreArranged format entries numbers
  pub packed : IsPacked zero format ranges (table_of format entries numbers) storage

-- the level is the first that would have more positions than may be for these entries, and would have so many
pub record IsFirstTooLarge (format : List FormatLevel) (ranges : List ℕ) (entries : List Entry) (level count : ℕ) : Type 0 where
  pub numbers : List ℕ
  pub arranged : AreArranged format entries numbers
  pub first : IsFirstAbove (positions_of format ranges (table_of format entries numbers)) level count

-- memory was wanted, or the first level is told that would have more positions than may be, and how many
abbrev pub IsRefusalOf : List FormatLevel → List ℕ → List Entry → PackRefusal → Type 0
IsRefusalOf format ranges entries Memory = Unit {0}
IsRefusalOf format ranges entries (SizeLimit level count) = IsFirstTooLarge format ranges entries level count
