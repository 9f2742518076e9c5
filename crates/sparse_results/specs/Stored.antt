-- What a result leaves whose levels and values stand for the sums of a workspace.
use Rattle.std.specs.Prelude.{◌≡◌, ℕ, ◌≤◌, ◌<◌, List, length, map, slice_index}
use Rattle.numbers.specs.Arithmetic.{Arithmetic}
use Rattle.level_core.specs.Meaning.{Arrays}
use Rattle.format_spec.specs.Formats.{letters_of}
use Rattle.index_notation.specs.declared.syntax.Statement.{Statement}
use Rattle.tensor_map.specs.Entries.{Entry}
use Rattle.concrete_notation.specs.Contributions.{sums_of}
use Rattle.tensor_storage.specs.declared.level.StorageLevel.{StorageLevel}
use Rattle.tensor_storage.specs.Levels.{meaning}
use Rattle.tensor_storage.specs.Stands.{IsPacked}
use Rattle.tensor_storage.specs.Storages.{storage_of}
use Rattle.term_code.specs.WorkspaceSinks.{column, values}
use Rattle.kernel_correctness.specs.Results.{IsLeft, LeavesResult}
use Rattle.kernel_correctness.specs.Stores.{Store, told_by}
use Rattle.sparse_results.specs.Results.{AreRowsOfResult}
use Rattle.sparse_results.specs.Tables.{table_of}

-- the arrays are those of levels and values, of the kinds that the format names, that stand for the table of rows
pub record StandForRows (a : Arithmetic) (store : Store) (rows : List Entry) (arrays : Arrays) : Type 0 where
  pub levels : List StorageLevel
  pub words : List ℕ
  pub is_left : IsLeft store arrays levels words
  pub letters : map meaning.kind levels ≡ letters_of store.format
  pub packed : IsPacked a.zero store.format store.ranges (table_of rows) (storage_of store.format levels words)

-- where these rows are those of a statement's result, the arrays leave it
abbrev pub StandingIsResult : Type 0
StandingIsResult = (a : Arithmetic) (s : Statement) (store : Store) (rows : List Entry) → AreRowsOfResult a s store rows
    → (arrays : Arrays) → StandForRows a store rows arrays → LeavesResult a s (told_by a s store) store arrays

-- the columns of a workspace that holds rows are those of their table
pub record AreColumns (rows : List Entry) : Type 0 where
  pub keys_many : (k : ℕ) → length (column k rows) ≡ length rows
  pub keys : (k i : ℕ) → i < length rows → slice_index (column k rows) i ≡ (table_of rows).coords k i
  pub values_many : length (values rows) ≡ length rows
  pub each_value : (i : ℕ) → i < length rows → slice_index (values rows) i ≡ (table_of rows).values i

abbrev pub ColumnsAreTables : Type 0
ColumnsAreTables = (rows : List Entry) → AreColumns rows

-- there are no more sums than rows
abbrev pub SumsAreNoMore : Type 0
SumsAreNoMore = (a : Arithmetic) (rows : List Entry) → length (sums_of a rows) ≤ length rows
