-- When a kernel is right for a statement and formats, and when it is sound: by what it leaves, whatever its code.
use Rattle.std.specs.Prelude.{◌≡◌, ℕ, ◌≤◌, ◌<◌, false, List, length}
use Rattle.limits.specs.Limits.{greatest_position_count}
use Rattle.numbers.specs.Arithmetic.{Arithmetic}
use Rattle.kernel_code.specs.declared.syntax.Kernel.{Kernel}
use Rattle.kernel_code.specs.declared.syntax.Place.TheVariants.{Level, Workspace}
use Rattle.kernel_code.specs.Kernels.{KernelOutcome, Finished, GotStuck, TooLong, NotFinished, go, go_by}
use Rattle.level_core.specs.Meaning.{Arrays}
use Rattle.format_spec.specs.declared.format.FormatLevel.{FormatLevel}
use Rattle.index_notation.specs.Statement.{numbers_from}
use Rattle.index_notation.specs.declared.syntax.Statement.{Statement}
use Rattle.iteration_graph.specs.Edges.{statement_edges}
use Rattle.iteration_graph.specs.Graphs.{IsLoopOrder}
use Rattle.expr_terms.specs.Nested.{flat}
use Rattle.nested_sums.specs.Multiplied.{multiplied}
use Rattle.concrete_notation.specs.Contributions.{Inputs}
use Rattle.concrete_notation.specs.Workspaces.{AreAllDense}
use Rattle.lowering.specs.Right.{pairs}
use Rattle.kernel_correctness.specs.Results.{LeavesResult, LeavesStorage, MayPass}
use Rattle.kernel_correctness.specs.Stores.{Store, IsStoreOf, IsGiven, told_by}

-- the variables of a statement, as they stand
abbrev pub standing_order : Statement → List ℕ
standing_order s = numbers_from 0 (length s.vars)

-- a kernel finishes and leaves the statement's values; or a level or the workspace would grow too large: a level as the result's
-- storage would, and the workspace, which there is only where some level of the result isn't dense, by as many pairs at most as there
-- are of a term and a point where it is present
abbrev pub IsRightOutcome : Arithmetic → Statement → Inputs → Store → KernelOutcome → Type 0
IsRightOutcome a s inputs store (Finished arrays turns) = LeavesResult a s inputs store arrays
IsRightOutcome a s inputs store (GotStuck statement) = ⊥
IsRightOutcome a s inputs store (TooLong (Level level) count) = MayPass a s inputs store level count
IsRightOutcome a s inputs store (TooLong Workspace count) =
    (greatest_position_count < count) × (count ≤ pairs s (standing_order s) inputs) × (AreAllDense store.format → ⊥)
IsRightOutcome a s inputs store NotFinished = ⊥

-- within some number of turns the outcome is such; and it is the same where arrays of the result may not be cut, so that none of them
-- gets shorter and each position of one is appended once
pub record Ends (a : Arithmetic) (order : ℕ) (kernel : Kernel) (arrays : Arrays) (P : KernelOutcome → Type 0) : Type 0 where
  pub turns : ℕ
  pub outcome : KernelOutcome
  pub is : go a order kernel arrays turns ≡ outcome
  pub appends : go_by false a order kernel arrays turns ≡ outcome
  pub so : P outcome

-- the kernel is right for the statement and formats: on every store, whatever the ranges and the operands
abbrev pub IsRightKernel : Arithmetic → Statement → List (List FormatLevel) → Kernel → Type 0
IsRightKernel a s formats kernel = (store : Store) → IsStoreOf s formats store → (arrays : Arrays) → IsGiven a.zero store arrays
    → Ends a (length store.format) kernel arrays (IsRightOutcome a s (told_by a s store) store)

-- it finishes with a storage that keeps the rules, or is refused a growth; it is never stuck, and its turns come to an end
abbrev pub IsSoundOutcome : ℕ → Store → KernelOutcome → Type 0
IsSoundOutcome nothing store (Finished arrays turns) = LeavesStorage nothing store arrays
IsSoundOutcome nothing store (GotStuck statement) = ⊥
IsSoundOutcome nothing store (TooLong place count) = Unit {0}
IsSoundOutcome nothing store NotFinished = ⊥

-- so it is on one store
abbrev pub IsSoundOn : Arithmetic → Kernel → Store → Type 0
IsSoundOn a kernel store = (arrays : Arrays) → IsGiven a.zero store arrays
    → Ends a (length store.format) kernel arrays (IsSoundOutcome a.zero store)

-- and on every store of a statement and formats
abbrev pub IsSoundKernel : Arithmetic → Statement → List (List FormatLevel) → Kernel → Type 0
IsSoundKernel a s formats kernel = (store : Store) → IsStoreOf s formats store → IsSoundOn a kernel store

-- ---- of a written statement, with nested sums
-- the statement whose loops a kernel goes through in a loop order: the written one multiplied out, which reads as tensors the sums that are
-- left
abbrev pub looped : Arithmetic → Statement → List ℕ → Statement
looped a s order = flat (multiplied a.one s order)

-- so many pairs at most as there are of a term and a point where it is present, in the loop order
abbrev pub AreFewPairs : Arithmetic → Statement → List (List FormatLevel) → Store → ℕ → Type 0
AreFewPairs a s formats store count =
    (order : List ℕ) × IsLoopOrder (length s.vars) (statement_edges s formats) order
    × (count ≤ pairs (looped a s order) (standing_order s) (told_by a (looped a s order) store))

-- a kernel finishes and leaves the statement's values; or a level or the workspace would grow too large, as above
abbrev pub IsRightOutcomeFor : Arithmetic → Statement → List (List FormatLevel) → Store → KernelOutcome → Type 0
IsRightOutcomeFor a s formats store (Finished arrays turns) = LeavesResult a (flat s) (told_by a (flat s) store) store arrays
IsRightOutcomeFor a s formats store (GotStuck statement) = ⊥
IsRightOutcomeFor a s formats store (TooLong (Level level) count) = MayPass a (flat s) (told_by a (flat s) store) store level count
IsRightOutcomeFor a s formats store (TooLong Workspace count) =
    (greatest_position_count < count) × AreFewPairs a s formats store count × (AreAllDense store.format → ⊥)
IsRightOutcomeFor a s formats store NotFinished = ⊥

-- the kernel is right for the written statement and formats, on every store
abbrev pub IsRightFor : Arithmetic → Statement → List (List FormatLevel) → Kernel → Type 0
IsRightFor a s formats kernel = (store : Store) → IsStoreOf (flat s) formats store → (arrays : Arrays) → IsGiven a.zero store arrays
    → Ends a (length store.format) kernel arrays (IsRightOutcomeFor a s formats store)
