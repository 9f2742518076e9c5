-- How the run of any kernel ends, within so many turns: what the machine answers where nothing is known of the kernel.
use Rattle.std.specs.Prelude.{◌≡◌, ◌⊎◌, ℕ, length}
use Rattle.numbers.specs.Arithmetic.{Arithmetic}
use Rattle.kernel_code.specs.declared.syntax.Kernel.{Kernel}
use Rattle.kernel_code.specs.declared.syntax.LoopKind.{LoopKind}
use Rattle.kernel_code.specs.declared.syntax.Place.{Place}
use Rattle.kernel_code.specs.declared.syntax.Place.TheVariants.{Level}
use Rattle.kernel_code.specs.declared.syntax.Turns.{Turns}
use Rattle.kernel_code.specs.Kernels.{Finished, GotStuck, TooLong, NotFinished, go}
use Rattle.level_core.specs.Meaning.{Arrays}
use Rattle.format_spec.specs.Formats.{letters_of}
use Rattle.tensor_storage.specs.Storages.{Storage}
use Rattle.storage_builder.specs.Checked.{AreLeastWide}
use Rattle.kernel_correctness.specs.Results.{LeavesStorage}
use Rattle.kernel_correctness.specs.Stores.{Store, IsGiven, StartsFew, result_sizes}
use Rattle.kernel_machine.specs.declared.checked_fault.CheckedFault.{CheckedFault}
use Rattle.kernel_machine.specs.declared.checked_fault.CheckedFault.TheVariants.{Trap, Budget, SizeLimit, BadStore, Memory}
use Rattle.kernel_machine.specs.Begins.{HaveNoMore, IsTooLarge}
use Rattle.kernel_machine.specs.Kept.{Keeps}
use Rattle.kernel_machine.specs.Runs.{HasRunWithin}

-- the storage that is left keeps the rules of its format, has one value a position, and zero where no path ends; and no block is wider
-- than the greatest number of coordinates below one parent wants it
pub record LeavesWhole (nothing : ℕ) (store : Store) (arrays : Arrays) : Type 0 where
  pub left : LeavesStorage nothing store arrays
  pub widths : AreLeastWide 1 left.levels

-- arrays that a run on those of a store came to
pub record HasStarted (nothing : ℕ) (store : Store) (arrays : Arrays) : Type 0 where
  pub given : Arrays
  pub is_given : IsGiven nothing store given
  pub kept : Keeps given arrays

-- the kernel's run on these arrays has no result, by what it does within so many turns
abbrev pub IsRunFault : Arithmetic → Kernel → Store → Arrays → ℕ → CheckedFault → Type 0
IsRunFault a kernel store given budget (Trap statement) = go a (length store.format) kernel given budget ≡ GotStuck statement
IsRunFault a kernel store given budget Budget = go a (length store.format) kernel given budget ≡ NotFinished
IsRunFault a kernel store given budget (SizeLimit place count) = go a (length store.format) kernel given budget ≡ TooLong place count
IsRunFault a kernel store given budget BadStore =
    (arrays : Arrays) × ((turns : LoopKind → ℕ) × (go a (length store.format) kernel given budget ≡ Finished arrays turns))
    × (LeavesWhole a.zero store arrays → ⊥)
IsRunFault a kernel store given budget Memory = Unit {0}

-- the kernel finishes on these arrays within so many turns, and leaves a storage that keeps every rule, which the tensor has
pub record IsEndOf (a : Arithmetic) (kernel : Kernel) (store : Store) (given : Arrays) (budget : ℕ) (tensor : Storage) (turns : Turns)
    : Type 0 where
  pub run : HasRunWithin a kernel store given budget tensor turns
  pub whole : LeavesWhole a.zero store run.arrays

-- the arrays of a store, and no others
pub record AreTheArrays (nothing : ℕ) (store : Store) (given : Arrays) : Type 0 where
  pub is_given : IsGiven nothing store given
  pub no_more : HaveNoMore store given

-- the kernel finishes on the store's arrays, and leaves this tensor
pub record IsCheckedRun (a : Arithmetic) (kernel : Kernel) (store : Store) (budget : ℕ) (tensor : Storage) (turns : Turns) : Type 0 where
  pub few : StartsFew (letters_of store.format) (result_sizes store) 1
  pub given : Arrays
  pub are : AreTheArrays a.zero store given
  pub ends : IsEndOf a kernel store given budget tensor turns

-- the result can be begun, and the run on the store's arrays has no result
pub record IsFaultOfRun (a : Arithmetic) (kernel : Kernel) (store : Store) (budget : ℕ) (fault : CheckedFault) : Type 0 where
  pub few : StartsFew (letters_of store.format) (result_sizes store) 1
  pub given : Arrays
  pub are : AreTheArrays a.zero store given
  pub fault_is : IsRunFault a kernel store given budget fault

-- the first dense level below dense levels alone that would have too many positions is this one, with so many
abbrev pub IsBegunTooLarge : Store → Place → ℕ → Type 0
IsBegunTooLarge store place count = (level : ℕ) × (place ≡ Level level)
    × IsTooLarge (letters_of store.format) (result_sizes store) 1 1 level count

-- why a kernel has no result: a level of the result can't be begun, or what its run does
abbrev pub IsCheckedFault : Arithmetic → Kernel → Store → ℕ → CheckedFault → Type 0
IsCheckedFault a kernel store budget (SizeLimit place count) =
    IsBegunTooLarge store place count ⊎ IsFaultOfRun a kernel store budget (SizeLimit place count)
IsCheckedFault a kernel store budget Memory = Unit {0}
IsCheckedFault a kernel store budget (Trap statement) = IsFaultOfRun a kernel store budget (Trap statement)
IsCheckedFault a kernel store budget Budget = IsFaultOfRun a kernel store budget Budget
IsCheckedFault a kernel store budget BadStore = IsFaultOfRun a kernel store budget BadStore
