-- A growth that is refused while a result goes through a workspace is one that may be refused.
use Rattle.std.specs.Prelude.{◌≡◌, ◌⊎◌, ℕ, suc, ◌<◌, ◌≤◌, List, length, slice_index}
use Rattle.limits.specs.Limits.{greatest_position_count}
use Rattle.numbers.specs.Arithmetic.{Arithmetic, Laws}
use Rattle.kernel_code.specs.declared.syntax.Arr.{Arr}
use Rattle.kernel_code.specs.declared.syntax.Arr.TheVariants.{Values}
use Rattle.kernel_code.specs.Kernels.{TooLong, place_of}
use Rattle.level_core.specs.Fragments.{IsOf}
use Rattle.tensor_map.specs.Entries.{Entry}
use Rattle.format_spec.specs.declared.format.FormatLevel.{FormatLevel}
use Rattle.index_notation.specs.declared.syntax.Statement.{Statement}
use Rattle.concrete_notation.specs.declared.concrete.Concrete.{Concrete}
use Rattle.concrete_notation.specs.Workspaces.{AreAllDense}
use Rattle.tensor_storage.specs.Counts.{positions_of}
use Rattle.loop_code.specs.declared.loops.LoopCode.{LoopCode}
use Rattle.lowering.specs.Lowered.{AddsRows, IsInOrder}
use Rattle.lowering.specs.Right.{rows_to}
use Rattle.term_code.specs.WorkspaceSinks.{PassesPairs}
use Rattle.kernel_correctness.specs.Kernels.{IsRightOutcome}
use Rattle.kernel_correctness.specs.Stores.{Store, told_by}
use Rattle.operand_arrays.specs.Operands.{stored_in}
use Rattle.dense_results.specs.Operands.{IsReadStore, operands_in}
use Rattle.sparse_results.specs.Results.{AreRowsOfResult}
use Rattle.sparse_results.specs.Tables.{table_of}

-- a growth of the level of the result that stands below d others, or of the values, to a count that passes the limit and is at most the
-- number of positions that the result's rows tell for that level
pub record PassesLevel (store : Store) (rows : List Entry) (d : ℕ) (b : Arr) (count : ℕ) : Type 0 where
  pub inside : d < length store.format
  pub array : IsOf 0 (suc d) b ⊎ (b ≡ Values 0)
  pub above : greatest_position_count < count
  pub within : count ≤ slice_index (positions_of store.format store.ranges (table_of rows)) d

abbrev pub LevelsMayPass : Type 0
LevelsMayPass = (a : Arithmetic) (s : Statement) (store : Store) (rows : List Entry) → AreRowsOfResult a s store rows
    → (d : ℕ) (b : Arr) (count : ℕ) → PassesLevel store rows d b count
    → IsRightOutcome a s (told_by a s store) store (TooLong (place_of (length store.format) b) count)

-- so may the workspace into which the rows of a statement's loops are pushed, where the result isn't dense throughout
abbrev pub WorkspacesMayPass : Type 0
WorkspacesMayPass = (a : Arithmetic) → Laws a → (s : Statement) (formats : List (List FormatLevel)) (store : Store)
    → IsReadStore s formats store → (AreAllDense store.format → ⊥) → (c : Concrete) → IsInOrder s formats c
    → (loops : LoopCode) → AddsRows s formats c loops → (keys : List ℕ) (w : ℕ) (b : Arr) (count : ℕ)
    → PassesPairs w (rows_to a s formats (told_by a s store) (stored_in (operands_in s store)) keys loops) b count
    → IsRightOutcome a s (told_by a s store) store (TooLong (place_of (length store.format) b) count)
