-- The rows of a workspace as a table, level by level.
use Rattle.std.specs.Prelude.{◌≡◌, ℕ, ◌^◌, ◌<◌, List, length, slice_index, slice_index_or}
use Rattle.tensor_map.specs.Entries.{Entry}
use Rattle.tensor_storage.specs.Arranged.{no_entry}
use Rattle.tensor_storage.specs.Tables.{Table}

-- the table whose rows are these, the keys of each in the order of the levels
abbrev pub table_of : List Entry → Table
table_of rows = record {
  count = length rows;
  coords = λ d i. slice_index (slice_index_or rows i no_entry).coords d;
  values = λ i. (slice_index_or rows i no_entry).value;
}

-- a row has a coordinate for each of so many keys, and a word as its value
pub record IsRow (keys : ℕ) (row : Entry) : Type 0 where
  pub many : length row.coords ≡ keys
  pub word : row.value < 2 ^ 64
