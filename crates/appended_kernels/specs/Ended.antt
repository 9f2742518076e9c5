-- What the arrays are once all rows are appended and the levels are ended: a storage that stands for the rows' sums.
use Rattle.std.specs.Prelude.{ℕ, List, length}
use Rattle.numbers.specs.Arithmetic.{Arithmetic, Laws}
use Rattle.kernel_code.specs.Meaning.{State}
use Rattle.tensor_map.specs.Entries.{Entry}
use Rattle.lists.specs.Each.{Each}
use Rattle.level_rows.specs.Tables.{Increase}
use Rattle.format_spec.specs.Formats.{letters_of, IsFormat}
use Rattle.concrete_notation.specs.Contributions.{sums_of}
use Rattle.tensor_storage.specs.Tables.{AreBelow}
use Rattle.kernel_correctness.specs.Stores.{Store, result_sizes}
use Rattle.sparse_results.specs.Stored.{StandForRows}
use Rattle.sparse_results.specs.Tables.{table_of, IsRow}
use Rattle.appended_results.specs.Results.{HoldsRows}
use Rattle.appended_results.specs.Ends.{Ending}

-- rows with a coordinate for each level of a store's result; those of their sums increase and are below the ranges
pub record AreRowsFor (a : Arithmetic) (store : Store) (rows : List Entry) : Type 0 where
  pub format : IsFormat store.format
  pub each : Each (IsRow (length store.format)) rows
  pub order : Increase (table_of (sums_of a rows)).coords (length store.format) (length (sums_of a rows))
  pub below : AreBelow (table_of (sums_of a rows)) (result_sizes store)

-- a state that held such rows, and then one in which all levels are ended: the arrays are those of levels and values that stand for the
-- sums of the rows
abbrev pub EndedStands : Type 0
EndedStands = (a : Arithmetic) → Laws a → (store : Store) (rows : List Entry) → AreRowsFor a store rows
    → (head base free nothing : ℕ) (s t : State)
    → (h : HoldsRows a (letters_of store.format) (result_sizes store) head base nothing rows s)
    → Ending (letters_of store.format) (result_sizes store) h.heads base free (length (letters_of store.format)) s t
    → StandForRows a store (sums_of a rows) t.arrays
