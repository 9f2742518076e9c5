-- The rows that a statement's loops push into a workspace, and their sums.
use Rattle.std.specs.Prelude.{◌≡◌, ℕ, ◌≤◌, List, length, All}
use Rattle.limits.specs.Limits.{greatest_position_count}
use Rattle.numbers.specs.Arithmetic.{Arithmetic, Laws}
use Rattle.format_spec.specs.declared.format.FormatLevel.{FormatLevel}
use Rattle.format_spec.specs.Formats.{letters_of}
use Rattle.index_notation.specs.declared.syntax.Statement.{Statement}
use Rattle.lists.specs.Each.{Each}
use Rattle.expr_terms.specs.ValueLaws.{HasWords}
use Rattle.concrete_notation.specs.declared.concrete.Concrete.{Concrete}
use Rattle.concrete_notation.specs.Contributions.{sums_of}
use Rattle.concrete_notation.specs.Nests.{left_in_order}
use Rattle.loop_code.specs.declared.loops.LoopCode.{LoopCode}
use Rattle.lowering.specs.Lowered.{AddsRows, IsInOrder}
use Rattle.lowering.specs.Right.{rows_to}
use Rattle.lowering.specs.Shapes as shapes
use Rattle.tensor_storage.specs.Storages.{in_level_order}
use Rattle.kernel_correctness.specs.Stores.{Store, IsStoreOf, told_by}
use Rattle.operand_arrays.specs.Operands.{stored_in}
use Rattle.dense_results.specs.Operands.{IsReadStore, operands_in}
use Rattle.sparse_results.specs.Keys.{HasOrderedResult}
use Rattle.sparse_results.specs.Results.{AreRowsOfResult}
use Rattle.sparse_results.specs.Tables.{IsRow}

-- each row that loops add to keys has a coordinate for each of them, and a word as its value
abbrev pub LoopsAddRows : Type 0
LoopsAddRows = (a : Arithmetic) → Laws a → (s : Statement) (formats : List (List FormatLevel)) (store : Store)
    → IsReadStore s formats store → (loops : LoopCode) → shapes.EachTerm (λ t. HasWords t.expr) loops → (keys : List ℕ)
    → Each (IsRow (length keys)) (rows_to a s formats (told_by a s store) (stored_in (operands_in s store)) keys loops)

-- the sums of the rows that the loops of a statement add to the left variables in loop order are the rows of its result
abbrev pub LoopsSumToResult : Type 0
LoopsSumToResult = (a : Arithmetic) → Laws a → (s : Statement) (formats : List (List FormatLevel)) → HasOrderedResult s formats
    → (store : Store) → IsReadStore s formats store → (c : Concrete) (in_order : IsInOrder s formats c)
    → (loops : LoopCode) → AddsRows s formats c loops → shapes.EachTerm (λ t. HasWords t.expr) loops
    → AreRowsOfResult a s store
    (sums_of a (rows_to a s formats (told_by a s store) (stored_in (operands_in s store)) (left_in_order s in_order.order) loops))

-- there is a range for each level of the result, none above the limit
pub record HasSmallLevels (store : Store) : Type 0 where
  pub each : length (in_level_order store.format store.ranges) ≡ length (letters_of store.format)
  pub small : All (λ size. size ≤ greatest_position_count) (in_level_order store.format store.ranges)

abbrev pub StoresHaveSmallLevels : Type 0
StoresHaveSmallLevels =
    (s : Statement) (formats : List (List FormatLevel)) (store : Store) → IsStoreOf s formats store → HasSmallLevels store
