-- What the run of a planned statement's kernel over the given statement's operands leaves, and why there is none. Ranges and values are
-- those of the given statement; what is stored, and the kernel, are the planned one's.
use Rattle.std.specs.Prelude.{◌≡◌, ℕ, ◌<◌, List, Option, Ok, Err, Vec, slice_index}
use Rattle.std.specs.declared.alloc.Global.{Global}
use Rattle.limits.specs.Limits.{greatest_position_count}
use Rattle.numbers.specs.Arithmetic.{Arithmetic}
use Rattle.tensor_map.specs.Entries.{Entries}
use Rattle.kernel_code.specs.declared.syntax.Kernel.{Kernel}
use Rattle.kernel_code.specs.declared.syntax.Place.TheVariants as place
use Rattle.kernel_code.specs.declared.syntax.Turns.{Turns}
use Rattle.format_spec.specs.declared.format.FormatLevel.{FormatLevel}
use Rattle.index_notation.specs.declared.syntax.Statement.{Statement}
use Rattle.iteration_graph.specs.Edges.{format_of}
use Rattle.expr_terms.specs.declared.bound.Bound.{Bound}
use Rattle.concrete_notation.specs.Workspaces.{AreAllDense}
use Rattle.mode_planner.specs.Planned.{IsPlanned}
use Rattle.mode_planner.specs.declared.planned.Planned.{Planned}
use Rattle.tensor_storage.specs.Storages.{Storage}
use Rattle.kernel_correctness.specs.Kernels.{AreFewPairs}
use Rattle.kernel_correctness.specs.Stores.{Store}
use Rattle.operand_packing.specs.Drawn.{drawn}
use Rattle.operand_packing.specs.Runnable.{IsRunnable, told_ranges}
use Rattle.operand_packing.specs.declared.large_level.LargeLevel.{LargeLevel}
use Rattle.kernel_runs.specs.Runs.{IsLargeLevelBy, IsStoreFor, IsTensorOf, RunsKernel, SizesFit}
use Rattle.kernel_runs.specs.Steps.{ListsNonzero, StopsOn}
use Rattle.kernel_runs.specs.declared.fault.RunFault.{RunFault}
use Rattle.kernel_runs.specs.declared.fault.RunFault.TheVariants.{Range, SizeLimit, Workspace, Memory}

-- the plan is that of the statement and some formats with which it can be run over the operands
pub record IsPlannedRunnable (s : Statement) (plan : Planned) (given : List (Option ℕ)) (operands : List Entries)
    (bounds : List (Vec Bound Global)) : Type 0 where
  pub formats : List (List FormatLevel)
  pub planned : IsPlanned s formats plan
  pub runnable : IsRunnable s formats given operands bounds

-- a store of the planned statement, with these ranges, each of whose operands stands for the entries that the plan stores in it
abbrev pub IsPlannedStore : Arithmetic → Planned → List ℕ → List Entries → Store → Type 0
IsPlannedStore a plan ranges operands store =
    IsStoreFor a plan.statement plan.formats ranges (drawn plan.origins operands) store

-- the ranges of the given statement agree, the planned one's kernel runs on a store of the operands, and these are the entries of the given
-- statement's result: those of the storage that the kernel leaves
pub record IsPlannedRun (a : Arithmetic) (s : Statement) (plan : Planned) (kernel : Kernel) (given : List (Option ℕ))
    (operands : List Entries) (bounds : List (Vec Bound Global)) (shape : List ℕ) (entries : Entries) (tensor : Storage)
    (turns : Turns) : Type 0 where
  pub ranges : List ℕ
  pub ranges_are : told_ranges s given bounds ≡ Ok ranges
  pub store : Store
  pub is_store : IsPlannedStore a plan ranges operands store
  pub runs : RunsKernel a plan.statement kernel store tensor turns
  pub lists : ListsNonzero a tensor entries
  pub tensor_of : IsTensorOf a s operands (slice_index ranges) shape entries

-- the ranges of the given statement agree, and by them this level of this tensor of the planned one has too many positions, so many
pub record IsLargePlannedLevel (a : Arithmetic) (s : Statement) (plan : Planned) (kernel : Kernel) (given : List (Option ℕ))
    (operands : List Entries) (bounds : List (Vec Bound Global)) (large : LargeLevel) : Type 0 where
  pub ranges : List ℕ
  pub ranges_are : told_ranges s given bounds ≡ Ok ranges
  pub by : IsLargeLevelBy a plan.statement plan.formats kernel ranges (drawn plan.origins operands) large.tensor large.level large.count

-- the ranges of the given statement agree, and on a store of the operands the kernel's run is refused a workspace, which there is only
-- where some level of the planned result isn't dense: it needs more pairs than may be, as many at most as there are of a term and a point
-- where it is present
pub record NeedsPlannedPairs (a : Arithmetic) (s : Statement) (plan : Planned) (kernel : Kernel) (given : List (Option ℕ))
    (operands : List Entries) (bounds : List (Vec Bound Global)) (count : ℕ) : Type 0 where
  pub ranges : List ℕ
  pub ranges_are : told_ranges s given bounds ≡ Ok ranges
  pub store : Store
  pub is_store : IsPlannedStore a plan ranges operands store
  pub passes : greatest_position_count < count
  pub most : AreFewPairs a plan.statement plan.formats store count
  pub sparse : AreAllDense (format_of plan.formats 0) → ⊥
  pub stops : StopsOn a kernel store place.Workspace count

-- why a statement isn't computed by the kernel of its plan: the first fault of its ranges; a level of the planned one that is too large;
-- a workspace; or want of memory
abbrev pub MayRefusePlanned : Arithmetic → Statement → Planned → Kernel → List (Option ℕ) → List Entries → List (Vec Bound Global)
    → RunFault → Type 0
MayRefusePlanned a s plan kernel given operands bounds (Range fault) = told_ranges s given bounds ≡ Err fault
MayRefusePlanned a s plan kernel given operands bounds (SizeLimit large) =
    IsLargePlannedLevel a s plan kernel given operands bounds large
MayRefusePlanned a s plan kernel given operands bounds (Workspace count) =
    NeedsPlannedPairs a s plan kernel given operands bounds count
MayRefusePlanned a s plan kernel given operands bounds (Memory error) = Unit {0}

-- where the ranges agree, no fault may come of sizes that fit: of what the planned statement stores
abbrev pub PlannedRefusesNoneThatFit : Type 0
PlannedRefusesNoneThatFit = (a : Arithmetic) (s : Statement) (plan : Planned) (kernel : Kernel) (given : List (Option ℕ))
    (operands : List Entries) (bounds : List (Vec Bound Global)) (ranges : List ℕ) (fault : RunFault)
    → told_ranges s given bounds ≡ Ok ranges → MayRefusePlanned a s plan kernel given operands bounds fault
    → SizesFit a plan.statement plan.formats ranges (drawn plan.origins operands) fault → ⊥
