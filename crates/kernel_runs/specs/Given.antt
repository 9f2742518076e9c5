-- What the run of a kernel of which nothing is known leaves, over a statement's operands, and why there is none.
use Rattle.std.specs.Prelude.{◌≡◌, ℕ, zero, suc, List, length, map, All, Option, Ok, Err, Vec, slice_index}
use Rattle.std.specs.declared.alloc.Global.{Global}
use Rattle.numbers.specs.Arithmetic.{Arithmetic}
use Rattle.tensor_map.specs.Entries.{AreEntries, Entries}
use Rattle.kernel_code.specs.declared.syntax.Kernel.{Kernel}
use Rattle.kernel_code.specs.declared.syntax.Place.TheVariants.{Level, Workspace as InWorkspace}
use Rattle.kernel_code.specs.declared.syntax.Turns.{Turns}
use Rattle.format_spec.specs.declared.format.FormatLevel.{FormatLevel}
use Rattle.index_notation.specs.declared.syntax.Statement.{Statement}
use Rattle.iteration_graph.specs.Edges.{format_of}
use Rattle.expr_terms.specs.declared.bound.Bound.{Bound}
use Rattle.tns_io.specs.Positions.{IsBelow}
use Rattle.tensor_storage.specs.Storages.{Storage}
use Rattle.kernel_correctness.specs.Stores.{Store}
use Rattle.kernel_machine.specs.Checked.{IsCheckedFault, IsCheckedRun}
use Rattle.kernel_machine.specs.declared.checked_fault.CheckedFault.{CheckedFault}
use Rattle.kernel_machine.specs.declared.checked_fault.CheckedFault.TheVariants as checked
use Rattle.operand_packing.specs.Runnable.{told_ranges}
use Rattle.operand_packing.specs.Packed.{ArePackedOperands, IsFirstLargeOperand}
use Rattle.kernel_runs.specs.declared.fault.GivenFault.{GivenFault}
use Rattle.kernel_runs.specs.declared.fault.GivenFault.TheVariants.{Run, Trap, Budget, BadStore}
use Rattle.kernel_runs.specs.declared.fault.RunFault.TheVariants.{Range, SizeLimit, Workspace, Memory}
use Rattle.kernel_runs.specs.Steps.{ListsNonzero}

-- the store that operands which stand for these entries make, with these ranges and the result's format
pub record IsPackedStore (a : Arithmetic) (s : Statement) (formats : List (List FormatLevel)) (ranges : List ℕ)
    (operands : List Entries) (store : Store) : Type 0 where
  pub ranges_are : store.ranges ≡ ranges
  pub format_is : store.format ≡ format_of formats 0
  pub packed : ArePackedOperands a s formats (slice_index ranges) operands store.operands

-- a store's run within a budget of turns: what the kernel leaves, its values that aren't zero, and the ranges of the left variables
pub record IsGivenOn (a : Arithmetic) (s : Statement) (kernel : Kernel) (store : Store) (budget : ℕ) (shape : List ℕ)
    (entries : Entries) (tensor : Storage) (turns : Turns) : Type 0 where
  pub runs : IsCheckedRun a kernel store budget tensor turns
  pub lists : ListsNonzero a tensor entries
  pub each : AreEntries entries
  pub shape_is : shape ≡ map (slice_index store.ranges) s.left.vars

-- the ranges agree; on the store of the packed operands the kernel finishes within the budget and leaves this tensor, a storage that keeps
-- every rule; and the entries are the values of its paths that aren't zero, in lexicographic order, below the ranges of the left variables
pub record IsGivenRun (a : Arithmetic) (s : Statement) (formats : List (List FormatLevel)) (kernel : Kernel) (given : List (Option ℕ))
    (operands : List Entries) (bounds : List (Vec Bound Global)) (budget : ℕ) (shape : List ℕ) (entries : Entries) (tensor : Storage)
    (turns : Turns) : Type 0 where
  pub ranges : List ℕ
  pub ranges_are : told_ranges s given bounds ≡ Ok ranges
  pub store : Store
  pub is_store : IsPackedStore a s formats ranges operands store
  pub runs : IsCheckedRun a kernel store budget tensor turns
  pub lists : ListsNonzero a tensor entries
  pub shape_is : shape ≡ map (slice_index ranges) s.left.vars
  pub order_is : entries.order ≡ length shape
  pub below : All (λ entry. IsBelow shape entry.coords) entries.list

-- why a kernel's run on a store has no result
abbrev pub RefusedGiven : Arithmetic → Kernel → Store → ℕ → GivenFault → Type 0
RefusedGiven a kernel store budget (Run (Range fault)) = ⊥
RefusedGiven a kernel store budget (Run (SizeLimit large)) =
    (large.tensor ≡ 0) × IsCheckedFault a kernel store budget (checked.SizeLimit (Level large.level) large.count)
RefusedGiven a kernel store budget (Run (Workspace count)) = IsCheckedFault a kernel store budget (checked.SizeLimit InWorkspace count)
RefusedGiven a kernel store budget (Run (Memory error)) = Unit {0}
RefusedGiven a kernel store budget (Trap statement) = IsCheckedFault a kernel store budget (checked.Trap statement)
RefusedGiven a kernel store budget Budget = IsCheckedFault a kernel store budget checked.Budget
RefusedGiven a kernel store budget BadStore = IsCheckedFault a kernel store budget checked.BadStore

-- the ranges agree, and on the store of the packed operands the machine answers this fault
pub record StopsGiven (a : Arithmetic) (s : Statement) (formats : List (List FormatLevel)) (kernel : Kernel) (given : List (Option ℕ))
    (operands : List Entries) (bounds : List (Vec Bound Global)) (budget : ℕ) (fault : CheckedFault) : Type 0 where
  pub ranges : List ℕ
  pub ranges_are : told_ranges s given bounds ≡ Ok ranges
  pub store : Store
  pub is_store : IsPackedStore a s formats ranges operands store
  pub fault_is : IsCheckedFault a kernel store budget fault

-- the ranges agree, and by them this level of this operand is the first with too many positions, so many
pub record IsLargeOperand (a : Arithmetic) (s : Statement) (formats : List (List FormatLevel)) (given : List (Option ℕ))
    (operands : List Entries) (bounds : List (Vec Bound Global)) (tensor level count : ℕ) : Type 0 where
  pub ranges : List ℕ
  pub ranges_are : told_ranges s given bounds ≡ Ok ranges
  pub large : IsFirstLargeOperand a s formats (slice_index ranges) operands tensor level count

-- a level of a tensor is too large: the result is tensor 0
abbrev pub IsLargeGiven : Arithmetic → Statement → List (List FormatLevel) → Kernel → List (Option ℕ) → List Entries
    → List (Vec Bound Global) → ℕ → ℕ → ℕ → ℕ → Type 0
IsLargeGiven a s formats kernel given operands bounds budget zero level count =
    StopsGiven a s formats kernel given operands bounds budget (checked.SizeLimit (Level level) count)
IsLargeGiven a s formats kernel given operands bounds budget (suc n) level count =
    IsLargeOperand a s formats given operands bounds (suc n) level count

-- why a statement isn't computed by a kernel: the first fault of the ranges; an operand that is too large; what the machine answers on the
-- store of the packed operands; or want of memory
abbrev pub MayRefuseGiven : Arithmetic → Statement → List (List FormatLevel) → Kernel → List (Option ℕ) → List Entries
    → List (Vec Bound Global) → ℕ → GivenFault → Type 0
MayRefuseGiven a s formats kernel given operands bounds budget (Run (Range fault)) = told_ranges s given bounds ≡ Err fault
MayRefuseGiven a s formats kernel given operands bounds budget (Run (SizeLimit large)) =
    IsLargeGiven a s formats kernel given operands bounds budget large.tensor large.level large.count
MayRefuseGiven a s formats kernel given operands bounds budget (Run (Workspace count)) =
    StopsGiven a s formats kernel given operands bounds budget (checked.SizeLimit InWorkspace count)
MayRefuseGiven a s formats kernel given operands bounds budget (Run (Memory error)) = Unit {0}
MayRefuseGiven a s formats kernel given operands bounds budget (Trap statement) =
    StopsGiven a s formats kernel given operands bounds budget (checked.Trap statement)
MayRefuseGiven a s formats kernel given operands bounds budget Budget =
    StopsGiven a s formats kernel given operands bounds budget checked.Budget
MayRefuseGiven a s formats kernel given operands bounds budget BadStore =
    StopsGiven a s formats kernel given operands bounds budget checked.BadStore
