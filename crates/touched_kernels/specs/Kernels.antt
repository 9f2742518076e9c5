-- When a kernel is right whose result has one level alone, into which coordinates are inserted: its loops add rows to a workspace of that
-- one key, whose list gets their sums, and the result is filled from the list.
use Rattle.std.specs.Prelude.{◌≡◌, ℕ, ◌≤◌, ◌<◌, List, [], ◌∷◌, ◌++◌, length, Some, slice_get, slice_index}
use Rattle.numbers.specs.Arithmetic.{Arithmetic, Laws}
use Rattle.kernel_code.specs.declared.syntax.Arr.{Arr}
use Rattle.kernel_code.specs.declared.syntax.Arr.TheVariants.{Sums, ListPositions}
use Rattle.kernel_code.specs.declared.syntax.Kernel.{Kernel}
use Rattle.kernel_code.specs.declared.syntax.KExpr.{Num, Len}
use Rattle.kernel_code.specs.declared.syntax.KStmt.{KStmt, Extend}
use Rattle.kernel_code.specs.declared.syntax.LoopKind.{LoopKind}
use Rattle.kernel_code.specs.Kernels.{KernelOutcome}
use Rattle.kernel_code.specs.Meaning.{Setting, State}
use Rattle.level_core.specs.declared.letter.Letter.{Letter}
use Rattle.level_core.specs.Meaning.{Arrays}
use Rattle.format_spec.specs.declared.format.FormatLevel.{FormatLevel}
use Rattle.format_spec.specs.Formats.{letters_of, modes_of}
use Rattle.index_notation.specs.declared.syntax.Statement.{Statement}
use Rattle.iteration_graph.specs.Edges.{format_of}
use Rattle.expr_terms.specs.ValueLaws.{HasWords}
use Rattle.concrete_notation.specs.declared.concrete.Concrete.{Concrete}
use Rattle.concrete_notation.specs.Nests.{left_in_order}
use Rattle.result_targets.specs.Beside.{beside_lists}
use Rattle.result_targets.specs.Scratch.{HasLists}
use Rattle.result_targets.specs.Sinks.{Adds, TakesAll}
use Rattle.loop_code.specs.declared.loops.LoopCode.{LoopCode}
use Rattle.loop_code.specs.Loops.{start}
use Rattle.lowering.specs.Lowered.{AddsRows, IsInOrder}
use Rattle.lowering.specs.Right.{rows_to}
use Rattle.lowering.specs.Shapes as shapes
use Rattle.term_code.specs.declared.places.Places.{Places}
use Rattle.term_code.specs.Places.{AreBelow, Keeps, StartsAt}
use Rattle.kernel_correctness.specs.Kernels.{Ends, IsRightOutcome}
use Rattle.kernel_correctness.specs.Stores.{Store, IsGiven, IsStoreOf, told_by}
use Rattle.operand_arrays.specs.Apart.{AreOutside}
use Rattle.operand_arrays.specs.Operands.{stored_in, IsOfOperands}
use Rattle.dense_results.specs.Kernels.{AreAtBase}
use Rattle.dense_results.specs.Operands.{IsReadStore, ArrayStands, operands_in}
use Rattle.result_assembly.specs.Drained.{IsCounted}
use Rattle.result_assembly.specs.Stored.{DrainsResult}
use Rattle.appended_kernels.specs.Kernels.{OnlyLevels, RefusesOnly}
use Rattle.sparse_kernels.specs.Kernels.{IsForSparse}
use Rattle.sparse_kernels.specs.Turns.{MakesTurns}
use Rattle.touched_workspaces.specs.Sinks.{touched_sink}
use Rattle.touched_workspaces.specs.Sizes.{greatest_marked_range}
use Rattle.touched_workspaces.specs.Starts.{BeginsTouched}
use Rattle.touched_workspaces.specs.declared.sink.TouchedSink.{TouchedSink}
use Rattle.touched_kernels.specs.Sums.{SumsTouched}

-- a statement with a format for each tensor, that of its result of one level, whose coordinates are counted and inserted
pub record IsForTouched (s : Statement) (formats : List (List FormatLevel)) : Type 0 where
  pub sparse : IsForSparse s formats
  pub letter : Letter
  pub alone : letters_of (format_of formats 0) ≡ letter ∷ []
  pub counted : IsCounted letter

-- a workspace whose key is the result's one variable, in two of a kernel's workspaces, which have these numbers of keys
pub record IsSinkOf (a : Arithmetic) (s : Statement) (formats : List (List FormatLevel)) (spaces : List ℕ) (k : TouchedSink) : Type 0 where
  pub modes : modes_of (format_of formats 0) ≡ k.variable ∷ []
  pub inside : k.variable < length s.vars
  pub zero : k.zero ≡ a.zero
  pub apart : k.dense ≡ k.list → ⊥
  pub dense : slice_get spaces k.dense ≡ Some 1
  pub list : slice_get spaces k.list ≡ Some 1

-- the range of its key
abbrev pub ranges_on : TouchedSink → Store → List ℕ
ranges_on k store = slice_index store.ranges k.variable ∷ []

-- a state at the top of loops that add rows to it: the arrays hold the operands of a store, each access is at its one parent, and the
-- workspace has no row yet
pub record IsAtTop (a : Arithmetic) (k : TouchedSink) (s : Statement) (formats : List (List FormatLevel)) (store : Store)
    (places : Places) (st : State) : Type 0 where
  pub stands : ArrayStands s formats store places.accesses st.arrays
  pub keeps : Keeps places [] start st
  pub from : AreOutside 0 0 places
  pub kept : (b : Arr) → IsOfOperands b → touched_sink.kept k b
  pub held : touched_sink.holds k a (ranges_on k store) [] st

-- From the top the code adds the rows that the loops add to these keys, whatever the store, if the workspace takes them in turn. It may
-- fill scratch lists from one number to the one before another.
pub record AddsFromTop (a : Arithmetic) (k : TouchedSink) (s : Statement) (formats : List (List FormatLevel)) (places : Places)
    (keys : List ℕ) (loops : LoopCode) (list past : ℕ) (code : List KStmt) : Type 0 where
  pub low : ℕ
  pub places_below : AreBelow low places
  pub free : ℕ
  pub most : Store → LoopKind → ℕ
  pub adds : (c : Setting) → c.arithmetic ≡ a → (store : Store) → IsReadStore s formats store
      → TakesAll touched_sink k (ranges_on k store) []
      (rows_to a s formats (told_by a s store) (stored_in (operands_in s store)) keys loops)
      → (st : State) → IsAtTop a k s formats store places st → HasLists list past st
      → Adds (beside_lists touched_sink list past) k c (ranges_on k store) code free (most store) []
      (rows_to a s formats (told_by a s store) (stored_in (operands_in s store)) keys loops) st

-- where the range is one of marks, a level alone is refused a growth
abbrev pub RefusesLevels : TouchedSink → Store → KernelOutcome → Type 0
RefusesLevels k store outcome = slice_index store.ranges k.variable ≤ greatest_marked_range → RefusesOnly (OnlyLevels store) outcome

-- On every store a kernel of such code is right. A run that finishes makes no more turns than the loops' code and the rows tell: for each
-- point of the support two drain turns at most, as its sum is joined and as it is stored. The workspace is refused no growth where the
-- range is one of marks.
abbrev pub TouchedKernelsAreRight : Type 0
TouchedKernelsAreRight = (a : Arithmetic) → Laws a → (s : Statement) (formats : List (List FormatLevel)) → IsForTouched s formats
    → (c : Concrete) (in_order : IsInOrder s formats c) → (loops : LoopCode) → AddsRows s formats c loops
    → shapes.EachTerm (λ t. HasWords t.expr) loops
    → (k : TouchedSink) (base : ℕ) (places : Places) → AreAtBase s base places
    → (top begin code summed drain : List KStmt) → StartsAt base top → BeginsTouched k begin
    → (list past : ℕ) (adds : AddsFromTop a k s formats places (left_in_order s in_order.order) loops list past code)
    → (at : ℕ) → SumsTouched k at summed
    → (g low : ℕ) → g < list → DrainsResult (format_of formats 0) k.list g low a.zero drain
    → (kernel : Kernel) → IsSinkOf a s formats kernel.workspaces k → g < kernel.lists → past ≤ kernel.lists
    → kernel.body ≡ (top ++ (begin ++ code)) ++ (summed ++ Extend (ListPositions g) (Len (Sums k.list)) (Num 0) ∷ drain)
    → (store : Store) → IsStoreOf s formats store → (arrays : Arrays) → IsGiven a.zero store arrays
    → Ends a (length store.format) kernel arrays (λ outcome. IsRightOutcome a s (told_by a s store) store outcome
    × MakesTurns s (told_by a s store) (letters_of store.format) (adds.most store) outcome × RefusesLevels k store outcome)
