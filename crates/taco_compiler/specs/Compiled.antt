-- What is promised of the answer to a statement and formats.
use Rattle.std.specs.Prelude.{◌≡◌, ℕ, ◌+◌, ◌*◌, ◌≤◌, true, false, List, [], length, Result, Ok, Err, slice_index}
use Rattle.std.specs.List.{list_any}
use Rattle.numbers.specs.Arithmetic.{Arithmetic}
use Rattle.kernel_code.specs.declared.syntax.Kernel.{Kernel}
use Rattle.kernel_code.specs.declared.syntax.LoopKind.{LoopKind}
use Rattle.kernel_code.specs.declared.syntax.Place.TheVariants.{Level, Workspace}
use Rattle.kernel_code.specs.declared.syntax.LoopKind.TheVariants.{Merge, Skip, Gather, Drain, Probe}
use Rattle.kernel_code.specs.Kernels.{KernelOutcome, Finished, GotStuck, TooLong, NotFinished}
use Rattle.level_core.specs.Meaning.{Arrays}
use Rattle.format_spec.specs.declared.format.FormatLevel.{FormatLevel}
use Rattle.index_notation.specs.declared.syntax.Statement.{Statement}
use Rattle.iteration_graph.specs.Edges.{statement_edges}
use Rattle.iteration_graph.specs.Graphs.{IsLoopOrder, NamesCycle}
use Rattle.concrete_notation.specs.Contributions.{Inputs}
use Rattle.kernel_correctness.specs.Kernels.{Ends, IsRightFor, IsRightKernel, IsSoundKernel, looped}
use Rattle.kernel_correctness.specs.Stores.{Store, IsStoreOf, IsGiven, operand_of, told_by}
use Rattle.lowering.specs.Stored.{stored_of}
use Rattle.simplifier.specs.Folded.{SimpleCode}
use Rattle.head_pairs.specs.Heads.{AreAtOneHead, head_variables}
use Rattle.row_orders.specs.Heads.{result_levels}
use Rattle.row_orders.specs.Takings.{calls_for_workspace, is_unordered}
use Rattle.appended_kernels.specs.Kernels.{IsLevel}
use Rattle.sparse_kernels.specs.Turns.{AreNotWider, HasPoints}
use Rattle.statement_costs.specs.Costs.{statement_cost, statement_repeats}
use Rattle.statement_costs.specs.Slots.{statement_slots}
use Rattle.dense_results.specs.Operands.{operands_in}
use Rattle.kernel_emit.specs.Emitted.{AreWidths}
use Rattle.taco_compiler.specs.declared.compiled.CompileFault.{CompileFault}
use Rattle.taco_compiler.specs.declared.compiled.CompileFault.TheVariants.{Cycle, Memory}
use Rattle.taco_compiler.specs.declared.compiled.Compiled.{Compiled}
use Rattle.taco_compiler.specs.Tails.{HasLargeKey, called_workspaces}

-- the variables in the one loop order that the iteration graph has
abbrev pub IsOrder : Statement → List (List FormatLevel) → List ℕ → Type 0
IsOrder s formats order = IsLoopOrder (length s.vars) (statement_edges s formats) order

abbrev pub HasCycle : Statement → List (List FormatLevel) → List ℕ → Type 0
HasCycle s formats cycle = NamesCycle (length s.vars) (statement_edges s formats) cycle

-- a cycle, or want of memory
abbrev pub HasOrder : Statement → List (List FormatLevel) → Result (List ℕ) CompileFault → Type 0
HasOrder s formats (Ok order) = IsOrder s formats order
HasOrder s formats (Err (Cycle cycle)) = HasCycle s formats cycle
HasOrder s formats (Err (Memory error)) = Unit {0}

-- no more merge turns than the statement's cost, nor skip turns than coordinates are repeated in groups, nor gather turns than the slots of
-- its levels without order, whatever bounds their widths
pub record AreWithinCost (s : Statement) (formats : List (List FormatLevel)) (order : List ℕ) (store : Store) (turns : LoopKind → ℕ)
    : Type 0 where
  pub merges : turns Merge ≤ statement_cost s formats order (stored_of s (operand_of store)) (slice_index store.ranges)
  pub skips : turns Skip ≤ statement_repeats s formats order (stored_of s (operand_of store)) (slice_index store.ranges)
  pub gathers : (widths : ℕ → ℕ → ℕ) → AreWidths s formats (operands_in s store) widths
      → turns Gather ≤ statement_slots s formats order (stored_of s (operand_of store)) widths (slice_index store.ranges)

-- so are those of a run that finishes
abbrev pub AreFewTurns : Statement → List (List FormatLevel) → List ℕ → Store → KernelOutcome → Type 0
AreFewTurns s formats order store (Finished arrays turns) = AreWithinCost s formats order store turns
AreFewTurns s formats order store (GotStuck statement) = ⊥
AreFewTurns s formats order store (TooLong place count) = Unit {0}
AreFewTurns s formats order store NotFinished = ⊥

-- so it is on every store
abbrev pub KeepsCost : Arithmetic → Statement → List (List FormatLevel) → List ℕ → Kernel → Type 0
KeepsCost a s formats order kernel =
    (store : Store) → IsStoreOf s formats store → (arrays : Arrays) → IsGiven a.zero store arrays
    → Ends a (length store.format) kernel arrays (AreFewTurns s formats order store)

-- so many points the support has, and at most so many drain turns are made for each
pub record AreWithinPasses (s : Statement) (inputs : Inputs) (passes drains : ℕ) : Type 0 where
  pub points : ℕ
  pub have : HasPoints s inputs points
  pub few : drains ≤ passes * points

-- where a statement calls for no workspace, as for a result that is dense throughout, there are no drain turns. Else there are two for each
-- level and point at most, and one for each point where each level of the result has an order
pub record AreFewDrains (s : Statement) (formats : List (List FormatLevel)) (order : List ℕ) (inputs : Inputs) (format : List FormatLevel)
    (drains : ℕ) : Type 0 where
  pub none : calls_for_workspace s formats order ≡ false → drains ≡ 0
  pub within : calls_for_workspace s formats order ≡ true → AreWithinPasses s inputs (2 * length format) drains
  pub once : calls_for_workspace s formats order ≡ true → list_any is_unordered (result_levels s formats) ≡ false
      → AreWithinPasses s inputs 1 drains

-- so are the drain turns of a run that finishes
abbrev pub DrainsFew : Statement → List (List FormatLevel) → List ℕ → Inputs → List FormatLevel → KernelOutcome → Type 0
DrainsFew s formats order inputs format (Finished arrays turns) = AreFewDrains s formats order inputs format (turns Drain)
DrainsFew s formats order inputs format (GotStuck statement) = ⊥
DrainsFew s formats order inputs format (TooLong place count) = Unit {0}
DrainsFew s formats order inputs format NotFinished = ⊥

-- so they are on every store
abbrev pub KeepsDrains : Arithmetic → Statement → List (List FormatLevel) → List ℕ → Kernel → Type 0
KeepsDrains a s formats order kernel =
    (store : Store) → IsStoreOf s formats store → (arrays : Arrays) → IsGiven a.zero store arrays
    → Ends a (length store.format) kernel arrays (DrainsFew s formats order (told_by a s store) store.format)

-- so many points the support has; and a coordinate is sought in each access at most for each merge turn that the cost allows, and in each
-- level of the result for each point, within so many probe turns as the widest level without order has slots, of an operand or of the
-- result
pub record AreWithinSearches (s : Statement) (formats : List (List FormatLevel)) (order : List ℕ) (store : Store) (inputs : Inputs)
    (arrays : Arrays) (probes : ℕ) : Type 0 where
  pub points : ℕ
  pub have : HasPoints s inputs points
  pub few : (width : ℕ) → AreWidths s formats (operands_in s store) (λ k level. width) → AreNotWider width arrays
      → probes ≤ width * (length s.accesses * statement_cost s formats order (stored_of s (operand_of store)) (slice_index store.ranges)
      + length store.format * points)

-- where a statement calls for no workspace no coordinate is sought in the result
pub record AreFewProbes (s : Statement) (formats : List (List FormatLevel)) (order : List ℕ) (store : Store) (inputs : Inputs)
    (arrays : Arrays) (probes : ℕ) : Type 0 where
  pub none : calls_for_workspace s formats order ≡ false → (width : ℕ)
      → AreWidths s formats (operands_in s store) (λ k level. width)
      → probes ≤ width * (length s.accesses * statement_cost s formats order (stored_of s (operand_of store)) (slice_index store.ranges))
  pub within : calls_for_workspace s formats order ≡ true → AreWithinSearches s formats order store inputs arrays probes

-- so few are the probe turns of a run that finishes
abbrev pub ProbesFew : Statement → List (List FormatLevel) → List ℕ → Store → Inputs → KernelOutcome → Type 0
ProbesFew s formats order store inputs (Finished arrays turns) = AreFewProbes s formats order store inputs arrays (turns Probe)
ProbesFew s formats order store inputs (GotStuck statement) = ⊥
ProbesFew s formats order store inputs (TooLong place count) = Unit {0}
ProbesFew s formats order store inputs NotFinished = ⊥

-- so they are on every store
abbrev pub KeepsProbes : Arithmetic → Statement → List (List FormatLevel) → List ℕ → Kernel → Type 0
KeepsProbes a s formats order kernel =
    (store : Store) → IsStoreOf s formats store → (arrays : Arrays) → IsGiven a.zero store arrays
    → Ends a (length store.format) kernel arrays (ProbesFew s formats order store (told_by a s store))

-- a run is neither stuck nor unfinished, and no workspace is refused a growth
abbrev pub IsUnrefused : KernelOutcome → Type 0
IsUnrefused (Finished arrays turns) = Unit {0}
IsUnrefused (GotStuck statement) = ⊥
IsUnrefused (TooLong place count) = IsLevel place
IsUnrefused NotFinished = ⊥

-- so it is on every store
abbrev pub NeedsNone : Arithmetic → Statement → List (List FormatLevel) → Kernel → Type 0
NeedsNone a s formats kernel =
    (store : Store) → IsStoreOf s formats store → (arrays : Arrays) → IsGiven a.zero store arrays
    → Ends a (length store.format) kernel arrays IsUnrefused

-- a run is neither stuck nor unfinished, and a workspace is refused no more pairs than there are at one head
abbrev pub NeedsOneHead : Statement → List ℕ → Inputs → KernelOutcome → Type 0
NeedsOneHead s order inputs (Finished arrays turns) = Unit {0}
NeedsOneHead s order inputs (GotStuck statement) = ⊥
NeedsOneHead s order inputs (TooLong (Level level) count) = Unit {0}
NeedsOneHead s order inputs (TooLong Workspace count) = AreAtOneHead s order (head_variables s order) inputs count
NeedsOneHead s order inputs NotFinished = ⊥

-- so it is on every store
abbrev pub KeepsHeads : Arithmetic → Statement → List (List FormatLevel) → List ℕ → Kernel → Type 0
KeepsHeads a s formats order kernel =
    (store : Store) → IsStoreOf s formats store → (arrays : Arrays) → IsGiven a.zero store arrays
    → Ends a (length store.format) kernel arrays (NeedsOneHead s order (told_by a s store))

-- a run is neither stuck nor unfinished, and a workspace whose key is one variable alone is refused a growth only where that one's range is
-- too large for marks
abbrev pub NeedsLargeKey : Statement → List (List FormatLevel) → List ℕ → Store → KernelOutcome → Type 0
NeedsLargeKey s formats order store (Finished arrays turns) = Unit {0}
NeedsLargeKey s formats order store (GotStuck statement) = ⊥
NeedsLargeKey s formats order store (TooLong (Level level) count) = Unit {0}
NeedsLargeKey s formats order store (TooLong Workspace count) = HasLargeKey s formats order store.ranges
NeedsLargeKey s formats order store NotFinished = ⊥

-- so it is on every store
abbrev pub KeepsMarks : Arithmetic → Statement → List (List FormatLevel) → List ℕ → Kernel → Type 0
KeepsMarks a s formats order kernel =
    (store : Store) → IsStoreOf s formats store → (arrays : Arrays) → IsGiven a.zero store arrays
    → Ends a (length store.format) kernel arrays (NeedsLargeKey s formats order store)

-- the kernel is right and sound, its loops turn within the cost, the rows of its workspace are gone over no more often than that, and
-- coordinates are sought within the widths of levels without order. It has no workspace where the statement calls for none, and is refused
-- none there; else it has those that are called for. Where each level of the result has an order it needs the pairs of one head at most,
-- and where the workspaces' key is one variable alone, one is refused a growth only if that variable's range is too large for marks.
-- Whatever is said of a run here, the run takes back nothing that it appended to the result (`Ends`)
-- The statement is one whose loops a kernel goes through, which reads nested sums as tensors
pub record IsCompiled (a : Arithmetic) (s : Statement) (formats : List (List FormatLevel)) (order : List ℕ) (kernel : Kernel)
    : Type 0 where
  pub right : IsRightKernel a s formats kernel
  pub sound : IsSoundKernel a s formats kernel
  pub few : KeepsCost a s formats order kernel
  pub drains : KeepsDrains a s formats order kernel
  pub probes : KeepsProbes a s formats order kernel
  pub bare : calls_for_workspace s formats order ≡ false → kernel.workspaces ≡ []
  pub direct : calls_for_workspace s formats order ≡ false → NeedsNone a s formats kernel
  pub heads : list_any is_unordered (result_levels s formats) ≡ false → KeepsHeads a s formats order kernel
  pub keyed : calls_for_workspace s formats order ≡ true → kernel.workspaces ≡ called_workspaces s formats order
  pub marked : calls_for_workspace s formats order ≡ true → KeepsMarks a s formats order kernel

-- of the written statement: a kernel in the loop order that is right for it, such a one for the statement whose loops it goes through, in
-- whose code numbers settle nothing and which over the ring adds and multiplies words alone; or the cycle, where there is one; or want of
-- memory
abbrev pub Answers : Arithmetic → Statement → List (List FormatLevel) → Result Compiled CompileFault → Type 0
Answers a s formats (Ok c) =
    IsOrder s formats c.order × IsRightFor a s formats c.kernel × IsCompiled a (looped a s c.order) formats c.order c.kernel
    × SimpleCode a c.kernel.body
Answers a s formats (Err (Cycle cycle)) = HasCycle s formats cycle
Answers a s formats (Err (Memory error)) = Unit {0}
