-- The coordinates of arranged entries, looked up once and kept level by level.
use Rattle.std.specs.Prelude.{◌≡◌, ℕ, ◌<◌, List, [], length, map, slice_index, slice_index_or}
use Rattle.format_spec.specs.declared.format.FormatLevel.{FormatLevel}
use Rattle.tensor_map.specs.Entries.{Entry}
use Rattle.tensor_storage.specs.Arranged.{level_coords}

-- the coordinates at a level of the entries that numbers name, one after another
abbrev pub column_of : List FormatLevel → List Entry → List ℕ → ℕ → List ℕ
column_of format entries numbers level = map (λ number. slice_index (level_coords format entries number) level) numbers

-- of each level its column
pub record AreColumns (format : List FormatLevel) (entries : List Entry) (numbers : List ℕ) (columns : List (List ℕ)) : Type 0 where
  pub as_many : length columns ≡ length format
  pub each : (level : ℕ) → level < length columns → slice_index_or columns level [] ≡ column_of format entries numbers level
