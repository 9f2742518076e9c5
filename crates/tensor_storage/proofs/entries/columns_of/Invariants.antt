use Rattle.std.specs.Prelude.{◌≡◌, ◌<◌, ℕ, [], length, slice_index_or}
use Rattle.tensor_storage.specs.Columns.{column_of}
use Rattle.tensor_storage.proofs.entries.columns_of.Given as goal

abbrev pub invariant-loop-level : goal.invariant-loop-level
invariant-loop-level l =
    ((level : ℕ) → level < length l.columns → slice_index_or l.columns level [] ≡ column_of l.format l.entries.list l.numbers level)
    × (length l.columns ≡ l.level)
