-- What the steps of a run leave: the kernel's run on packed operands, and the entries of the result.
use Rattle.std.specs.Prelude.{◌≡◌, ◌⊎◌, ℕ, List, filter, length, map, slice_index}
use Rattle.numbers.specs.Arithmetic.{Arithmetic}
use Rattle.tensor_map.specs.Entries.{AreEntries, Entries, SameValues, StrictlyIncreasing, NoneIsZero, is_nonzero}
use Rattle.kernel_code.specs.declared.syntax.Kernel.{Kernel}
use Rattle.kernel_code.specs.declared.syntax.Place.{Place}
use Rattle.kernel_code.specs.declared.syntax.Place.TheVariants as place
use Rattle.kernel_code.specs.declared.syntax.Turns.{Turns}
use Rattle.kernel_code.specs.Kernels.{TooLong, go}
use Rattle.level_core.specs.Meaning.{Arrays}
use Rattle.format_spec.specs.Formats.{letters_of}
use Rattle.index_notation.specs.declared.syntax.Statement.{Statement}
use Rattle.tensor_storage.specs.Routes.{ListsPaths}
use Rattle.tensor_storage.specs.Storages.{Storage}
use Rattle.kernel_correctness.specs.Stores.{Store, IsGiven, StartsFew, result_sizes}
use Rattle.kernel_machine.specs.Begins as begins
use Rattle.kernel_machine.specs.Runs.{HasRun, most_turns}
use Rattle.kernel_runs.specs.declared.fault.RunFault.{RunFault}
use Rattle.kernel_runs.specs.declared.fault.RunFault.TheVariants.{Range, SizeLimit, Workspace, Memory}

-- the result can be begun
abbrev pub CanBegin : Store → Type 0
CanBegin store = StartsFew (letters_of store.format) (result_sizes store) 1

-- the kernel finishes on arrays of the store, and the tensor is the storage that it leaves
pub record EndsOn (a : Arithmetic) (kernel : Kernel) (store : Store) (tensor : Storage) (turns : Turns) : Type 0 where
  pub few : CanBegin store
  pub given : Arrays
  pub is_given : IsGiven a.zero store given
  pub has_run : HasRun a kernel store given tensor turns

-- it is refused a growth
pub record StopsOn (a : Arithmetic) (kernel : Kernel) (store : Store) (at : Place) (count : ℕ) : Type 0 where
  pub few : CanBegin store
  pub given : Arrays
  pub is_given : IsGiven a.zero store given
  pub ends : go a (length store.format) kernel given most_turns ≡ TooLong at count

-- why the run of a kernel on a store has no result
abbrev pub RefusedOn : Arithmetic → Kernel → Store → RunFault → Type 0
RefusedOn a kernel store (Range fault) = ⊥
RefusedOn a kernel store (SizeLimit large) =
    (large.tensor ≡ 0) × (begins.IsTooLarge (letters_of store.format) (result_sizes store) 1 1 large.level large.count
    ⊎ StopsOn a kernel store (place.Level large.level) large.count)
RefusedOn a kernel store (Workspace count) = StopsOn a kernel store place.Workspace count
RefusedOn a kernel store (Memory error) = Unit {0}

-- the entries list the paths of a storage that end at another value than zero, increasing, with these values
pub record ListsNonzero (a : Arithmetic) (storage : Storage) (entries : Entries) : Type 0 where
  pub all : Entries
  pub lists : ListsPaths a storage all
  pub order : entries.order ≡ all.order
  pub kept : entries.list ≡ filter (is_nonzero a) all.list
  pub nonzero : NoneIsZero a entries.list
  pub values : SameValues a all.list entries.list
  pub increasing : StrictlyIncreasing entries.list

-- the run of a statement's kernel on a store: what the kernel leaves, its values that aren't zero, and the ranges of the left variables
pub record IsRunOn (a : Arithmetic) (s : Statement) (kernel : Kernel) (store : Store) (shape : List ℕ) (entries : Entries) (tensor : Storage)
    (turns : Turns) : Type 0 where
  pub ends : EndsOn a kernel store tensor turns
  pub lists : ListsNonzero a tensor entries
  pub each : AreEntries entries
  pub shape_is : shape ≡ map (slice_index store.ranges) s.left.vars
