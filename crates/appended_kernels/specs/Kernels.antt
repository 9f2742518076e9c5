-- When a kernel is right whose result is appended to: rows whose sums are those of the loops' rows are appended in the order of the
-- result's levels, as they come or out of workspaces, and behind the loops each level's last parent is given its positions.
use Rattle.std.specs.Prelude.{◌≡◌, ℕ, ◌+◌, ◌*◌, ◌≤◌, false, List, [], ◌++◌, length, Some, slice_get}
use Rattle.std.specs.List.{list_any}
use Rattle.numbers.specs.Arithmetic.{Arithmetic, Laws}
use Rattle.kernel_code.specs.declared.syntax.Arr.{Arr}
use Rattle.kernel_code.specs.declared.syntax.Kernel.{Kernel}
use Rattle.kernel_code.specs.declared.syntax.KStmt.{KStmt}
use Rattle.kernel_code.specs.declared.syntax.LoopKind.{LoopKind}
use Rattle.kernel_code.specs.declared.syntax.Place.{Place}
use Rattle.kernel_code.specs.declared.syntax.Place.TheVariants.{Level, Workspace}
use Rattle.kernel_code.specs.Does.{Does}
use Rattle.kernel_code.specs.Kernels.{KernelOutcome, Finished, GotStuck, TooLong, NotFinished, place_of}
use Rattle.kernel_code.specs.Meaning.{Setting, State}
use Rattle.level_core.specs.Meaning.{Arrays}
use Rattle.tensor_map.specs.Entries.{Entry}
use Rattle.format_spec.specs.declared.format.FormatLevel.{FormatLevel}
use Rattle.format_spec.specs.Formats.{letters_of}
use Rattle.index_notation.specs.declared.syntax.Statement.{Statement}
use Rattle.iteration_graph.specs.Edges.{format_of}
use Rattle.lists.specs.Each.{Each}
use Rattle.expr_terms.specs.ValueLaws.{HasWords}
use Rattle.concrete_notation.specs.declared.concrete.Concrete.{Concrete}
use Rattle.concrete_notation.specs.Contributions.{sums_of}
use Rattle.concrete_notation.specs.Nests.{SharesLoops, left_in_order, workspaces}
use Rattle.result_targets.specs.Beside.{beside_lists}
use Rattle.result_targets.specs.Scratch.{HasLists}
use Rattle.result_targets.specs.Sinks.{Adds, TakesAll}
use Rattle.loop_code.specs.declared.loops.LoopCode.{LoopCode}
use Rattle.loop_code.specs.Loops.{start}
use Rattle.lowering.specs.Lowered.{AddsRows, IsInOrder, concrete_of, plain}
use Rattle.lowering.specs.Right.{rows_to}
use Rattle.lowering.specs.Shapes as shapes
use Rattle.row_orders.specs.Heads.{result_levels}
use Rattle.row_orders.specs.Takings.{is_unordered}
use Rattle.term_code.specs.declared.places.Places.{Places}
use Rattle.term_code.specs.Places.{Keeps, StartsAt}
use Rattle.term_code.specs.WorkspaceSinks.{HoldsRows}
use Rattle.kernel_correctness.specs.Kernels.{Ends, IsRightOutcome}
use Rattle.kernel_correctness.specs.Stores.{Store, IsFlat, IsGiven, IsStoreOf, told_by}
use Rattle.operand_arrays.specs.Apart.{AreOutside}
use Rattle.operand_arrays.specs.Operands.{stored_in, IsOfOperands}
use Rattle.dense_results.specs.Kernels.{AreAtBase}
use Rattle.dense_results.specs.Operands.{AreFormatted, IsReadStore, ArrayStands, operands_in}
use Rattle.sparse_results.specs.Keys.{HasOrderedResult}
use Rattle.sparse_results.specs.Tables.{IsRow}
use Rattle.appended_results.specs.Begins.{BeginsFirst}
use Rattle.appended_results.specs.Ends.{EndsFirst}
use Rattle.appended_results.specs.Heads.{IsHead}
use Rattle.appended_results.specs.declared.sink.AppendedSink.{AppendedSink}
use Rattle.appended_results.specs.Sink.{appended_sink, letters_in}

-- a statement with a format for each tensor that stands for no sum, that of its result not dense throughout and of levels with an order
pub record IsForAppended (s : Statement) (formats : List (List FormatLevel)) : Type 0 where
  pub ordered : HasOrderedResult s formats
  pub flat : IsFlat s formats
  pub read : AreFormatted s formats
  pub sorted : list_any is_unordered (result_levels s formats) ≡ false

-- a statement in concrete notation without workspaces and with no two loops over one variable side by side, and loops that are its own and
-- add its rows
pub record AreAppendedLoops (s : Statement) (formats : List (List FormatLevel)) (c : Concrete) (loops : LoopCode) : Type 0 where
  pub shares : SharesLoops c
  pub none : workspaces c ≡ []
  pub rows : AddsRows s formats c loops
  pub shape : concrete_of loops ≡ plain c
  pub words : shapes.EachTerm (λ t. HasWords t.expr) loops

-- a sink that appends to the levels of these formats' result, and begins each value with zero
pub record IsSinkOf (a : Arithmetic) (formats : List (List FormatLevel)) (k : AppendedSink) : Type 0 where
  pub levels : k.levels ≡ format_of formats 0
  pub head : IsHead (letters_of (format_of formats 0)) k.head
  pub zero : k.zero ≡ a.zero

-- the variable behind those of the sink
abbrev pub behind : AppendedSink → ℕ
behind k = k.base + 4 * length k.levels

-- a state at the top of loops that append rows: the arrays hold the operands of a store, each access is at its one parent, and no row is
-- appended yet. The sink's variables are below those of the places.
pub record IsAtTop (a : Arithmetic) (k : AppendedSink) (s : Statement) (formats : List (List FormatLevel)) (store : Store)
    (places : Places) (st : State) : Type 0 where
  pub stands : ArrayStands s formats store places.accesses st.arrays
  pub keeps : Keeps places [] start st
  pub from : AreOutside 0 (behind k) places
  pub kept : (b : Arr) → IsOfOperands b → appended_sink.kept k b
  pub held : appended_sink.holds k a store.ranges [] st

-- From the top the code appends the rows that the loops add to these keys, whatever the store, if the sink takes them in turn. It may fill
-- scratch lists from one number to the one before another.
pub record AddsFromTop (a : Arithmetic) (k : AppendedSink) (s : Statement) (formats : List (List FormatLevel)) (places : Places)
    (keys : List ℕ) (loops : LoopCode) (list past : ℕ) (code : List KStmt) : Type 0 where
  pub free : ℕ
  pub most : Store → LoopKind → ℕ
  pub appends : (c : Setting) → c.arithmetic ≡ a → (store : Store) → IsReadStore s formats store
      → TakesAll appended_sink k store.ranges []
      (rows_to a s formats (told_by a s store) (stored_in (operands_in s store)) keys loops)
      → (st : State) → IsAtTop a k s formats store places st → HasLists list past st
      → Adds (beside_lists appended_sink list past) k c store.ranges code free (most store) []
      (rows_to a s formats (told_by a s store) (stored_in (operands_in s store)) keys loops) st

-- the workspaces of a kernel, which have these numbers of keys, have no rows
abbrev pub HaveNoRows : List ℕ → State → Type 0
HaveNoRows spaces st = (w keys : ℕ) → slice_get spaces w ≡ Some keys → HoldsRows w keys [] st.arrays

-- the sink holds rows, and no more turns were made
pub record HasAppended (a : Arithmetic) (k : AppendedSink) (ranges : List ℕ) (rows : List Entry) (most : LoopKind → ℕ) (s t : State)
    : Type 0 where
  pub held : appended_sink.holds k a ranges rows t
  pub turns : (j : LoopKind) → t.turns j ≤ s.turns j + most j

-- a growth that a kernel may be refused on a store, of such a place and to so many
pub record MayBeRefused (a : Arithmetic) (s : Statement) (store : Store) (Allowed : Store → Place → ℕ → Type 0) (b : Arr) (count : ℕ)
    : Type 0 where
  pub right : IsRightOutcome a s (told_by a s store) store (TooLong (place_of (length store.format) b) count)
  pub allowed : Allowed store (place_of (length store.format) b) count

-- From the top the code appends rows that have the sums of those that the loops add to these keys, whatever the store; the kernel's
-- workspaces have these numbers of keys, and no rows. It may fill scratch lists from one number to the one before another.
pub record AppendsFromTop (a : Arithmetic) (k : AppendedSink) (s : Statement) (formats : List (List FormatLevel)) (places : Places)
    (keys : List ℕ) (loops : LoopCode) (list past : ℕ) (spaces : List ℕ) (Allowed : Store → Place → ℕ → Type 0) (code : List KStmt)
    : Type 0 where
  pub most : Store → LoopKind → ℕ
  pub held : Store → List Entry
  pub each : (store : Store) → IsStoreOf s formats store → Each (IsRow (length store.format)) (held store)
  pub same : (store : Store) → IsStoreOf s formats store → sums_of a (held store)
      ≡ sums_of a (rows_to a s formats (told_by a s store) (stored_in (operands_in s store)) keys loops)
  pub appends : (c : Setting) → c.arithmetic ≡ a → c.workspaces ≡ spaces → (store : Store) → IsStoreOf s formats store
      → (st : State) → IsAtTop a k s formats store places st → HaveNoRows spaces st → HasLists list past st
      → Does c code st (HasAppended a k store.ranges (held store) (most store) st)
      (λ turns. MayBeRefused a s store Allowed)

-- a run that finishes makes no more turns than these
abbrev pub MakesNoMore : (LoopKind → ℕ) → KernelOutcome → Type 0
MakesNoMore most (Finished arrays turns) = (j : LoopKind) → turns j ≤ most j
MakesNoMore most (GotStuck statement) = ⊥
MakesNoMore most (TooLong place count) = Unit {0}
MakesNoMore most NotFinished = ⊥

abbrev pub IsLevel : Place → Type 0
IsLevel (Level level) = Unit {0}
IsLevel Workspace = ⊥

-- levels alone, on whatever store
abbrev pub OnlyLevels : Store → Place → ℕ → Type 0
OnlyLevels store place count = IsLevel place

-- such growths alone are refused
abbrev pub RefusesOnly : (Place → ℕ → Type 0) → KernelOutcome → Type 0
RefusesOnly Allowed (Finished arrays turns) = Unit {0}
RefusesOnly Allowed (GotStuck statement) = Unit {0}
RefusesOnly Allowed (TooLong place count) = Allowed place count
RefusesOnly Allowed NotFinished = Unit {0}

-- on every store a kernel of such code is right, and a run that finishes makes no more turns than the loops' code
abbrev pub AppendedKernelsAreRight : Type 1
AppendedKernelsAreRight = (a : Arithmetic) → Laws a → (s : Statement) (formats : List (List FormatLevel))
    → (c : Concrete) (in_order : IsInOrder s formats c) → IsForAppended s formats
    → (loops : LoopCode) → AreAppendedLoops s formats c loops
    → (k : AppendedSink) → IsSinkOf a formats k
    → (base : ℕ) (places : Places) → AreAtBase s base places → AreOutside 0 (behind k) places → behind k ≤ base
    → (top begin code end : List KStmt) → StartsAt base top → BeginsFirst (letters_in k) (length k.levels) k.base (length k.levels) begin
    → (list past : ℕ) (spaces : List ℕ) (Allowed : Store → Place → ℕ → Type 0)
    → (appends : AppendsFromTop a k s formats places (left_in_order s in_order.order) loops list past spaces Allowed code)
    → (free : ℕ) → EndsFirst (letters_in k) k.base free (length k.levels) end
    → (kernel : Kernel) → past ≤ kernel.lists → kernel.workspaces ≡ spaces → kernel.body ≡ ((top ++ begin) ++ code) ++ end
    → (store : Store) → IsStoreOf s formats store → (arrays : Arrays) → IsGiven a.zero store arrays
    → Ends a (length store.format) kernel arrays (λ outcome. IsRightOutcome a s (told_by a s store) store outcome
    × MakesNoMore (appends.most store) outcome × RefusesOnly (Allowed store) outcome)
