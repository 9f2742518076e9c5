-- What a result leaves, and the columns of a workspace as a table.
use Rattle.std.specs.Prelude.{◌≡◌, ℕ, zero, suc, ◌<◌, List, [], ◌∷◌, length, slice_index, refl}
use Rattle.std.proofs.Common.{arith}
use Rattle.std.proofs.lemmas.List.{length-map}
use Rattle.tensor_map.specs.Entries.{Entry}
use Rattle.term_code.specs.WorkspaceSinks.{values}
use Rattle.sparse_results.specs.Stored.{StandingIsResult, ColumnsAreTables}
use Rattle.sparse_results.specs.Tables.{table_of}
use Rattle.sparse_results.proofs.Sorting.{column_at}

pub standing_is_result : StandingIsResult
standing_is_result a s store rows are arrays h = record {
  levels = h.levels;
  values = h.words;
  is_left = h.is_left;
  table = table_of rows;
  named = are.named;
  letters = h.letters;
  packed = h.packed;
}

value_at : (rows : List Entry) (i : ℕ) → i < length rows → slice_index (values rows) i ≡ (table_of rows).values i
value_at [] i h = absurd (omega (arith, h))
value_at (row ∷ rows) zero h = refl
value_at (row ∷ rows) (suc i) h = value_at rows i (omega (arith, h))

pub columns_are_tables : ColumnsAreTables
columns_are_tables rows = record {
  keys_many = λ k. length-map rows (λ (e : Entry). slice_index e.coords k);
  keys = λ k i h. column_at k rows i h;
  values_many = length-map rows (λ (e : Entry). e.value);
  each_value = value_at rows;
}
