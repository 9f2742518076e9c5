-- When a kernel is right whose result isn't dense throughout: its loops push rows into a workspace, which are sorted, summed, and fill
-- the result's levels.
use Rattle.std.specs.Prelude.{◌≡◌, ℕ, ◌<◌, ◌≤◌, List, [], ◌∷◌, ◌++◌, length, Some, slice_get}
use Rattle.numbers.specs.Arithmetic.{Arithmetic, Laws}
use Rattle.kernel_code.specs.declared.syntax.Arr.{Arr}
use Rattle.kernel_code.specs.declared.syntax.Arr.TheVariants.{Sums, ListPositions}
use Rattle.kernel_code.specs.declared.syntax.Kernel.{Kernel}
use Rattle.kernel_code.specs.declared.syntax.KExpr.{Num, Len}
use Rattle.kernel_code.specs.declared.syntax.KStmt.{KStmt, Extend, SortSum}
use Rattle.kernel_code.specs.declared.syntax.LoopKind.{LoopKind}
use Rattle.kernel_code.specs.Meaning.{Setting, State}
use Rattle.level_core.specs.Meaning.{Arrays}
use Rattle.format_spec.specs.declared.format.FormatLevel.{FormatLevel}
use Rattle.format_spec.specs.Formats.{IsFormat, letters_of}
use Rattle.index_notation.specs.Statement.{IsNumbered, IsWellNamed}
use Rattle.index_notation.specs.declared.syntax.Statement.{Statement}
use Rattle.iteration_graph.specs.Edges.{format_of, HasFormat}
use Rattle.expr_terms.specs.ValueLaws.{HasWords}
use Rattle.concrete_notation.specs.declared.concrete.Concrete.{Concrete}
use Rattle.concrete_notation.specs.Nests.{left_in_order}
use Rattle.concrete_notation.specs.Workspaces.{AreAllDense}
use Rattle.result_targets.specs.Beside.{beside_lists}
use Rattle.result_targets.specs.Scratch.{HasLists}
use Rattle.result_targets.specs.Sinks.{Adds}
use Rattle.loop_code.specs.declared.loops.LoopCode.{LoopCode}
use Rattle.loop_code.specs.Loops.{start}
use Rattle.lowering.specs.Lowered.{AddsRows, IsInOrder}
use Rattle.lowering.specs.Right.{rows_to}
use Rattle.lowering.specs.Shapes as shapes
use Rattle.term_code.specs.declared.workspace_sink.WorkspaceSink.{WorkspaceSink}
use Rattle.term_code.specs.declared.places.Places.{Places}
use Rattle.term_code.specs.WorkspaceSinks.{workspace_sink}
use Rattle.term_code.specs.Places.{Keeps, StartsAt}
use Rattle.kernel_correctness.specs.Kernels.{Ends, IsRightOutcome}
use Rattle.kernel_correctness.specs.Stores.{Store, IsFlat, IsGiven, IsStoreOf, told_by}
use Rattle.operand_arrays.specs.Apart.{AreOutside}
use Rattle.operand_arrays.specs.Operands.{stored_in, IsOfOperands}
use Rattle.dense_results.specs.Kernels.{AreAtBase}
use Rattle.dense_results.specs.Operands.{AreFormatted, IsReadStore, ArrayStands, operands_in}
use Rattle.dense_results.specs.Results.{left_ranges}
use Rattle.result_assembly.specs.Stored.{DrainsResult}
use Rattle.sparse_kernels.specs.Turns.{MakesTurns}

-- a statement with a format for each tensor that stands for no sum, that of its result not dense throughout
pub record IsForSparse (s : Statement) (formats : List (List FormatLevel)) : Type 0 where
  pub numbered : IsNumbered s
  pub named : IsWellNamed s
  pub left : HasFormat formats s.left
  pub flat : IsFlat s formats
  pub read : AreFormatted s formats
  pub format : IsFormat (format_of formats 0)
  pub some : AreAllDense (format_of formats 0) → ⊥

-- a state at the top of loops that push rows into a workspace: the arrays hold the operands of a store, each access is at its one
-- parent, and the workspace has no row yet
pub record IsAtTop (a : Arithmetic) (k : WorkspaceSink) (s : Statement) (formats : List (List FormatLevel)) (store : Store)
    (places : Places) (st : State) : Type 0 where
  pub stands : ArrayStands s formats store places.accesses st.arrays
  pub keeps : Keeps places [] start st
  pub from : AreOutside 0 0 places
  pub none : (y : ℕ) → workspace_sink.mine k y → y < 0
  pub kept : (b : Arr) → IsOfOperands b → workspace_sink.kept k b
  pub held : workspace_sink.holds k a (left_ranges s store) [] st

-- From the top the code pushes the rows that the loops add to these keys, whatever the store. It may fill scratch lists from one number to
-- the one before another.
pub record PushesFromTop (a : Arithmetic) (k : WorkspaceSink) (s : Statement) (formats : List (List FormatLevel)) (places : Places)
    (keys : List ℕ) (loops : LoopCode) (list past : ℕ) (code : List KStmt) : Type 0 where
  pub free : ℕ
  pub most : Store → LoopKind → ℕ
  pub pushes : (c : Setting) → c.arithmetic ≡ a → (store : Store) → IsReadStore s formats store
      → (st : State) → IsAtTop a k s formats store places st → HasLists list past st
      → Adds (beside_lists workspace_sink list past) k c (left_ranges s store) code free (most store) []
      (rows_to a s formats (told_by a s store) (stored_in (operands_in s store)) keys loops) st

-- the rows of workspace w are sorted and summed, and in scratch list g each is given the one position above all levels
abbrev pub sorting_code : ℕ → ℕ → List KStmt
sorting_code w g = SortSum w ∷ Extend (ListPositions g) (Len (Sums w)) (Num 0) ∷ []

-- on every store a kernel of such code is right, and a run that finishes makes no more turns than the loops' code and the rows tell
abbrev pub SparseKernelsAreRight : Type 0
SparseKernelsAreRight = (a : Arithmetic) → Laws a → (s : Statement) (formats : List (List FormatLevel)) → IsForSparse s formats
    → (c : Concrete) (in_order : IsInOrder s formats c) → (loops : LoopCode) → AddsRows s formats c loops
    → shapes.EachTerm (λ t. HasWords t.expr) loops
    → (k : WorkspaceSink) → k.keys ≡ length s.left.vars
    → (base : ℕ) (places : Places) → AreAtBase s base places
    → (top code drain : List KStmt) → StartsAt base top
    → (list past : ℕ) (pushes : PushesFromTop a k s formats places (left_in_order s in_order.order) loops list past code)
    → (g low : ℕ) → g < list → DrainsResult (format_of formats 0) k.number g low a.zero drain
    → (kernel : Kernel) → slice_get kernel.workspaces k.number ≡ Some k.keys → g < kernel.lists → past ≤ kernel.lists
    → kernel.body ≡ (top ++ code) ++ (sorting_code k.number g ++ drain)
    → (store : Store) → IsStoreOf s formats store → (arrays : Arrays) → IsGiven a.zero store arrays
    → Ends a (length store.format) kernel arrays (λ outcome. IsRightOutcome a s (told_by a s store) store outcome
    × MakesTurns s (told_by a s store) (letters_of store.format) (pushes.most store) outcome)
