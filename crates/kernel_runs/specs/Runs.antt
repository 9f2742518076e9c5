-- What the run of a statement's kernel over its operands leaves, and why there is none.
use Rattle.std.specs.Prelude.{◌≡◌, ◌⊎◌, ℕ, zero, suc, ◌<◌, ◌≤◌, List, length, map, All, Option, Ok, Err, Vec, slice_index}
use Rattle.std.specs.declared.alloc.Global.{Global}
use Rattle.limits.specs.Limits.{greatest_position_count}
use Rattle.numbers.specs.Arithmetic.{Arithmetic}
use Rattle.tensor_map.specs.Entries.{Entries, StrictlyIncreasing, NoneIsZero, value_at}
use Rattle.kernel_code.specs.declared.syntax.Kernel.{Kernel}
use Rattle.kernel_code.specs.declared.syntax.Place.TheVariants as place
use Rattle.kernel_code.specs.declared.syntax.Turns.{Turns}
use Rattle.level_core.specs.Meaning.{Arrays}
use Rattle.format_spec.specs.declared.format.FormatLevel.{FormatLevel}
use Rattle.format_spec.specs.Formats.{letters_of}
use Rattle.index_notation.specs.declared.syntax.Statement.{Statement}
use Rattle.iteration_graph.specs.Edges.{format_of, statement_edges}
use Rattle.expr_terms.specs.Operands.{operand_values}
use Rattle.expr_terms.specs.Nested.{flat, nested_value}
use Rattle.expr_terms.specs.declared.bound.Bound.{Bound}
use Rattle.tns_io.specs.Positions.{IsBelow}
use Rattle.concrete_notation.specs.Workspaces.{AreAllDense}
use Rattle.lowering.specs.Right.{pairs}
use Rattle.tensor_storage.specs.Counts.{AreFew, positions_of}
use Rattle.tensor_storage.specs.Stands.{IsPacked}
use Rattle.tensor_storage.specs.Storages.{Storage, in_level_order}
use Rattle.tensor_storage.specs.Tables.{Table}
use Rattle.iteration_graph.specs.Graphs.{IsLoopOrder}
use Rattle.kernel_correctness.specs.Kernels.{AreFewPairs, looped, standing_order}
use Rattle.kernel_correctness.specs.Results.{IsNamedResult, MayPass}
use Rattle.kernel_correctness.specs.Stores.{Store, IsGiven, StartsFew, IsStoreOf, told_by}
use Rattle.kernel_machine.specs.Begins as begins
use Rattle.kernel_machine.specs.Runs.{HasRun}
use Rattle.operand_packing.specs.Runnable.{told_ranges}
use Rattle.operand_packing.specs.declared.large_level.LargeLevel.{LargeLevel}
use Rattle.operand_packing.specs.Packed.{ArePackedOperands, OperandsFit, IsFirstLargeOperand}
use Rattle.kernel_runs.specs.Steps.{ListsNonzero, StopsOn}
use Rattle.kernel_runs.specs.declared.fault.RunFault.{RunFault}
use Rattle.kernel_runs.specs.declared.fault.RunFault.TheVariants.{Range, SizeLimit, Workspace, Memory}

-- the entries are the statement's values that aren't zero, in lexicographic order, and the shape is the ranges of the left side's
-- variables
pub record IsTensorOf (a : Arithmetic) (s : Statement) (operands : List Entries) (ranges : ℕ → ℕ) (shape : List ℕ)
    (entries : Entries) : Type 0 where
  pub shape_is : shape ≡ map ranges s.left.vars
  pub order_is : entries.order ≡ length shape
  pub below : All (λ entry. IsBelow shape entry.coords) entries.list
  pub increasing : StrictlyIncreasing entries.list
  pub nonzero : NoneIsZero a entries.list
  pub values_are : (coords : List ℕ) → IsBelow shape coords
      → value_at a entries.list coords ≡ nested_value a s (operand_values a operands) ranges coords

-- a store of a statement and formats, with these ranges, whose operands stand for these entries
pub record IsStoreFor (a : Arithmetic) (s : Statement) (formats : List (List FormatLevel)) (ranges : List ℕ)
    (operands : List Entries) (store : Store) : Type 0 where
  pub is_store : IsStoreOf (flat s) formats store
  pub ranges_are : store.ranges ≡ ranges
  pub packed : ArePackedOperands a s formats (slice_index ranges) operands store.operands

-- the kernel finishes on the store within these turns, and the tensor that it leaves stands for the statement's values, named by its
-- support
pub record RunsKernel (a : Arithmetic) (s : Statement) (kernel : Kernel) (store : Store) (tensor : Storage) (turns : Turns) : Type 0 where
  pub given : Arrays
  pub is_given : IsGiven a.zero store given
  pub has_run : HasRun a kernel store given tensor turns
  pub table : Table
  pub named : IsNamedResult a (flat s) (told_by a (flat s) store) store.format table
  pub packed : IsPacked a.zero store.format store.ranges table tensor

-- the ranges agree, the kernel runs on a store of the operands, and these are the result's entries: those of the storage that it leaves
pub record IsRun (a : Arithmetic) (s : Statement) (formats : List (List FormatLevel)) (kernel : Kernel) (given : List (Option ℕ))
    (operands : List Entries) (bounds : List (Vec Bound Global)) (shape : List ℕ) (entries : Entries) (tensor : Storage)
    (turns : Turns) : Type 0 where
  pub ranges : List ℕ
  pub ranges_are : told_ranges s given bounds ≡ Ok ranges
  pub store : Store
  pub is_store : IsStoreFor a s formats ranges operands store
  pub runs : RunsKernel a s kernel store tensor turns
  pub lists : ListsNonzero a tensor entries
  pub tensor_of : IsTensorOf a s operands (slice_index ranges) shape entries

-- the sizes of the result's levels
abbrev pub result_level_sizes : List (List FormatLevel) → List ℕ → List ℕ
result_level_sizes formats ranges = in_level_order (format_of formats 0) ranges

-- the result can't be begun: all operands are packed, and of its dense levels that have dense ones alone above them this is the
-- first that has more positions than may be, and it has so many
pub record CantBegin (a : Arithmetic) (s : Statement) (formats : List (List FormatLevel)) (ranges : List ℕ) (operands : List Entries)
    (level count : ℕ) : Type 0 where
  pub storages : List Storage
  pub packed : ArePackedOperands a s formats (slice_index ranges) operands storages
  pub first : begins.IsTooLarge (letters_of (format_of formats 0)) (result_level_sizes formats ranges) 1 1 level count

-- the result can't be finished: on a store of the operands a level may grow too large, and the kernel's run is refused that growth
pub record CantFinish (a : Arithmetic) (s : Statement) (formats : List (List FormatLevel)) (kernel : Kernel) (ranges : List ℕ)
    (operands : List Entries) (level count : ℕ) : Type 0 where
  pub store : Store
  pub is_store : IsStoreFor a s formats ranges operands store
  pub passes : MayPass a (flat s) (told_by a (flat s) store) store level count
  pub stops : StopsOn a kernel store (place.Level level) count

-- a level of a tensor is too large: the result is tensor 0
abbrev pub IsLargeLevelBy : Arithmetic → Statement → List (List FormatLevel) → Kernel → List ℕ → List Entries → ℕ → ℕ → ℕ → Type 0
IsLargeLevelBy a s formats kernel ranges operands zero level count =
    CantBegin a s formats ranges operands level count ⊎ CantFinish a s formats kernel ranges operands level count
IsLargeLevelBy a s formats kernel ranges operands (suc n) level count =
    IsFirstLargeOperand a s formats (slice_index ranges) operands (suc n) level count

-- the ranges agree, and by them this level of this tensor has too many positions, so many
pub record IsLargeLevel (a : Arithmetic) (s : Statement) (formats : List (List FormatLevel)) (kernel : Kernel) (given : List (Option ℕ))
    (operands : List Entries) (bounds : List (Vec Bound Global)) (large : LargeLevel) : Type 0 where
  pub ranges : List ℕ
  pub ranges_are : told_ranges s given bounds ≡ Ok ranges
  pub by : IsLargeLevelBy a s formats kernel ranges operands large.tensor large.level large.count

-- the ranges agree, and on a store of the operands the kernel's run is refused a workspace, which there is only where some level of the
-- result isn't dense: it needs more pairs than may be, as many at most as there are of a term and a point where it is present
pub record NeedsPairs (a : Arithmetic) (s : Statement) (formats : List (List FormatLevel)) (kernel : Kernel) (given : List (Option ℕ))
    (operands : List Entries) (bounds : List (Vec Bound Global)) (count : ℕ) : Type 0 where
  pub ranges : List ℕ
  pub ranges_are : told_ranges s given bounds ≡ Ok ranges
  pub store : Store
  pub is_store : IsStoreFor a s formats ranges operands store
  pub passes : greatest_position_count < count
  pub most : AreFewPairs a s formats store count
  pub sparse : AreAllDense (format_of formats 0) → ⊥
  pub stops : StopsOn a kernel store place.Workspace count

-- why a statement isn't computed by a kernel: the first fault of the ranges; a level that is too large; a workspace; or want of memory
abbrev pub MayRefuseRun : Arithmetic → Statement → List (List FormatLevel) → Kernel → List (Option ℕ) → List Entries
    → List (Vec Bound Global) → RunFault → Type 0
MayRefuseRun a s formats kernel given operands bounds (Range fault) = told_ranges s given bounds ≡ Err fault
MayRefuseRun a s formats kernel given operands bounds (SizeLimit large) = IsLargeLevel a s formats kernel given operands bounds large
MayRefuseRun a s formats kernel given operands bounds (Workspace count) = NeedsPairs a s formats kernel given operands bounds count
MayRefuseRun a s formats kernel given operands bounds (Memory error) = Unit {0}

-- no level of an operand or of the result's storage has more positions than may be
pub record LevelsFit (a : Arithmetic) (s : Statement) (formats : List (List FormatLevel)) (ranges : List ℕ)
    (operands : List Entries) : Type 0 where
  pub operands_fit : OperandsFit a s formats (slice_index ranges) operands
  pub begins : StartsFew (letters_of (format_of formats 0)) (result_level_sizes formats ranges) 1
  pub result_fits : (store : Store) → IsStoreFor a s formats ranges operands store → (table : Table)
      → IsNamedResult a (flat s) (told_by a (flat s) store) store.format table → AreFew (positions_of store.format store.ranges table)

-- the workspace of a result that isn't dense needs no more pairs than may be
abbrev pub PairsFit : Arithmetic → Statement → List (List FormatLevel) → List ℕ → List Entries → Type 0
PairsFit a s formats ranges operands =
    (AreAllDense (format_of formats 0) → ⊥) → (store : Store) → IsStoreFor a s formats ranges operands store
    → (order : List ℕ) → IsLoopOrder (length s.vars) (statement_edges s formats) order
    → pairs (looped a s order) (standing_order s) (told_by a (looped a s order) store) ≤ greatest_position_count

-- what a fault of sizes is about fits: levels, or a workspace. Other faults are about no size
abbrev pub SizesFit : Arithmetic → Statement → List (List FormatLevel) → List ℕ → List Entries → RunFault → Type 0
SizesFit a s formats ranges operands (Range fault) = ⊥
SizesFit a s formats ranges operands (SizeLimit large) = LevelsFit a s formats ranges operands
SizesFit a s formats ranges operands (Workspace count) = PairsFit a s formats ranges operands
SizesFit a s formats ranges operands (Memory error) = ⊥

-- where the ranges agree, no fault may come of sizes that fit
abbrev pub RefusesNoneThatFit : Type 0
RefusesNoneThatFit = (a : Arithmetic) (s : Statement) (formats : List (List FormatLevel)) (kernel : Kernel) (given : List (Option ℕ))
    (operands : List Entries) (bounds : List (Vec Bound Global)) (ranges : List ℕ) (fault : RunFault)
    → told_ranges s given bounds ≡ Ok ranges → MayRefuseRun a s formats kernel given operands bounds fault
    → SizesFit a s formats ranges operands fault → ⊥
