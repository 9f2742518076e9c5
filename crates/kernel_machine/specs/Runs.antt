-- How the run of a prepared kernel ends.
use Rattle.std.specs.Prelude.{◌≡◌, ℕ, suc, ◌-◌, ◌^◌, ◌<◌, List, length, map, All, Some, slice_get}
use Rattle.numbers.specs.Arithmetic.{Arithmetic}
use Rattle.kernel_code.specs.declared.syntax.Arr.{Arr}
use Rattle.kernel_code.specs.declared.syntax.Arr.TheVariants.{Values, Ends, Width, Coordinates}
use Rattle.kernel_code.specs.declared.syntax.Kernel.{Kernel}
use Rattle.kernel_code.specs.declared.syntax.Turns.{Turns}
use Rattle.kernel_code.specs.Kernels.{Finished, TooLong, NotFinished, go}
use Rattle.level_core.specs.declared.letter.Letter.{Letter}
use Rattle.level_core.specs.Fragments.{IsOf}
use Rattle.level_core.specs.Meaning.{Arrays}
use Rattle.format_spec.specs.declared.format.FormatLevel.{FormatLevel}
use Rattle.format_spec.specs.Formats.{letters_of}
use Rattle.tensor_storage.specs.declared.level.StorageLevel.{StorageLevel}
use Rattle.tensor_storage.specs.declared.words.LevelWords.{LevelWords}
use Rattle.tensor_storage.specs.Levels.{meaning}
use Rattle.tensor_storage.specs.Storages.{Storage, IsStorage}
use Rattle.storage_arrays.specs.Arrays.{AreDone}
use Rattle.storage_builder.specs.Building.{Building, AreDense}
use Rattle.storage_builder.specs.Made.{AllAlike}
use Rattle.kernel_interpreter.specs.Memory.{IsInPlace, Through}
use Rattle.kernel_interpreter.specs.Store.{count_of}
use Rattle.kernel_correctness.specs.Results.{IsLeft, summed}
use Rattle.kernel_correctness.specs.Stores.{Store, AreHeld, result_sizes}
use Rattle.kernel_machine.specs.declared.refusal.RunRefusal.{RunRefusal}
use Rattle.kernel_machine.specs.declared.refusal.RunRefusal.TheVariants.{SizeLimit, Memory}

-- the turns that a run may make in all
unfoldable pub most_turns : ℕ
most_turns = 2 ^ 64 - 1

-- what arrays have of a level of the result: these words in each array that is there
pub record WordsLeft (level : ℕ) (words : LevelWords) (a : Arrays) : Type 0 where
  pub ends : (xs : List ℕ) → a (Ends 0 level) ≡ Some xs → xs ≡ words.ends.items
  pub width : (xs : List ℕ) → a (Width 0 level) ≡ Some xs → xs ≡ words.width.items
  pub coordinates : (xs : List ℕ) → a (Coordinates 0 level) ≡ Some xs → xs ≡ words.coordinates.items

-- finished levels of these kinds and ranges that the arrays hold, as the first of a result, are these, but for their room
abbrev pub AreThese : List Letter → List ℕ → Arrays → List StorageLevel → Type 0
AreThese letters sizes arrays these = (levels : List StorageLevel) → map meaning.kind levels ≡ letters → map meaning.size levels ≡ sizes
    → AreHeld levels 0 1 arrays → AreDone 1 levels → AllAlike levels these

-- the kernel finishes on the given arrays after these turns, so many at most, and the tensor has what it leaves of the result: a storage
-- of the store's format and ranges, whose levels are finished and keep the rules of their kinds
pub record HasRunWithin (a : Arithmetic) (kernel : Kernel) (store : Store) (given : Arrays) (budget : ℕ) (tensor : Storage) (turns : Turns)
    : Type 0 where
  pub arrays : Arrays
  pub ends : go a (length store.format) kernel given budget ≡ Finished arrays (count_of turns)
  pub format_is : tensor.format ≡ store.format
  pub is_left : IsLeft store arrays tensor.levels tensor.values
  pub storage : IsStorage tensor
  pub done : AreDone 1 tensor.levels
  pub keeps : All meaning.keeps tensor.levels
  pub sizes : map meaning.size tensor.levels ≡ result_sizes store
  pub alike : AreThese (letters_of store.format) (result_sizes store) (summed arrays) tensor.levels

-- so it does within the turns that a run may make
abbrev pub HasRun : Arithmetic → Kernel → Store → Arrays → Storage → Turns → Type 0
HasRun a kernel store given tensor turns = HasRunWithin a kernel store given most_turns tensor turns

-- the kernel appends no words, and sorts neither a scratch list nor a workspace
abbrev pub WorksInPlace : Kernel → Type 0
WorksInPlace kernel = Through IsInPlace kernel.body

-- the growth of an array of the result or of a workspace is refused; or memory is wanted, of a kernel that works in place and whose
-- result is all dense only where its turns don't end
abbrev pub IsRunRefusal : Arithmetic → Kernel → Store → Arrays → RunRefusal → Type 0
IsRunRefusal a kernel store given Memory =
    WorksInPlace kernel → AreDense store.format → go a (length store.format) kernel given most_turns ≡ NotFinished
IsRunRefusal a kernel store given (SizeLimit place count) = go a (length store.format) kernel given most_turns ≡ TooLong place count

-- each level was handed over as arrays had it, and arrays that are no level's stand as before
pub record WasHanded (old : Building) (before : Arrays) (new : Building) (after : Arrays) : Type 0 where
  pub format : new.format ≡ old.format
  pub sizes : new.sizes ≡ old.sizes
  pub long : length new.parts ≡ length old.parts
  pub handed : (i : ℕ) (words : LevelWords) → i < length old.format → slice_get new.parts i ≡ Some words → WordsLeft (suc i) words before
  pub others : (x : Arr) → ((k : ℕ) → IsOf 0 k x → ⊥) → after x ≡ before x

-- a tensor has the levels and the values that arrays have of the result: a storage of this format and of levels of these ranges, which
-- are finished and keep the rules of their kinds
pub record IsMadeFrom (format : List FormatLevel) (sizes : List ℕ) (arrays : Arrays) (t : Storage) : Type 0 where
  pub format_is : t.format ≡ format
  pub held : AreHeld t.levels 0 1 (summed arrays)
  pub values : arrays (Values 0) ≡ Some t.values
  pub storage : IsStorage t
  pub done : AreDone 1 t.levels
  pub keeps : All meaning.keeps t.levels
  pub sizes_are : map meaning.size t.levels ≡ sizes
  pub alike : AreThese (letters_of format) sizes (summed arrays) t.levels
