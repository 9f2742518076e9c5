-- How a kernel is made ready: the level at which a result can't be begun, and the state from which the kernel runs.
use Rattle.std.specs.Prelude.{◌≡◌, ◌⊎◌, ℕ, suc, ◌<◌, ◌≤◌, true, false}
use Rattle.std.specs.Prelude.{List, ◌∷◌, length, map, replicate, slice_get, Option, Some, None}
use Rattle.limits.specs.Limits.{greatest_position_count}
use Rattle.numbers.specs.Arithmetic.{Arithmetic}
use Rattle.kernel_code.specs.declared.syntax.Kernel.{Kernel}
use Rattle.kernel_code.specs.declared.syntax.Place.TheVariants.{Level, Workspace}
use Rattle.kernel_code.specs.declared.syntax.Arr.{Arr}
use Rattle.kernel_code.specs.declared.syntax.Arr.TheVariants.{Values}
use Rattle.kernel_code.specs.Kernels.{start_state}
use Rattle.kernel_code.specs.Arrays.{is_scratch}
use Rattle.level_core.specs.declared.letter.Letter.{Letter}
use Rattle.level_core.specs.declared.arrays.LevelArray.{LevelArray}
use Rattle.level_core.specs.declared.arrays.LevelArray.TheVariants.{Dimension as OfSize, Ends as OfEnds}
use Rattle.level_core.specs.declared.arrays.LevelArray.TheVariants.{Coordinates as OfCoordinates, Width as OfWidth}
use Rattle.level_core.specs.Arrays.{array_of}
use Rattle.level_core.specs.Meaning.{Arrays}
use Rattle.format_spec.specs.declared.format.FormatLevel.{FormatLevel}
use Rattle.format_spec.specs.Formats.{letters_of}
use Rattle.tensor_storage.specs.Handed.{no_words}
use Rattle.tensor_storage.specs.Storages.{Storage}
use Rattle.storage_builder.specs.Building.{building}
use Rattle.kernel_interpreter.specs.declared.machine.Machine.{Machine}
use Rattle.resolved_code.specs.Erase.{erase}
use Rattle.resolved_code.specs.Rooms.{room_of_code}
use Rattle.kernel_interpreter.specs.Memory.{variable_room}
use Rattle.kernel_interpreter.specs.Store.{state_of}
use Rattle.kernel_correctness.specs.Stores.{Store, IsGiven, StartsFew, result_sizes}
use Rattle.level_core.specs.Kinds.{properties, parents_below}
use Rattle.lent_arrays.specs.Lent.{numbered, words_of_level}
use Rattle.machine_starts.specs.Begun.{IsNotMade}
use Rattle.tensor_storage.specs.declared.level.StorageLevel.{StorageLevel}
use Rattle.kernel_machine.specs.declared.prepared.Prepared.{Prepared}
use Rattle.kernel_machine.specs.declared.refusal.RunRefusal.{RunRefusal}
use Rattle.kernel_machine.specs.declared.refusal.RunRefusal.TheVariants.{SizeLimit, Memory}

-- what a kernel is run on: these ranges and operands, and a result of this format
abbrev pub store_of : List ℕ → List Storage → List FormatLevel → Store
store_of ranges operands format = record { ranges = ranges; operands = operands; format = format }

-- of dense levels that have dense levels alone above them, numbered from this one on, the first that has too many positions
-- stands at this level, with so many
abbrev pub IsTooLarge : List Letter → List ℕ → ℕ → ℕ → ℕ → ℕ → Type 0
IsTooLarge (letter ∷ letters) (size ∷ sizes) parents number level count =
    let positions = parents_below letter size parents in
    ((greatest_position_count < positions) × (level ≡ number) × (count ≡ positions))
    ⊎ ((positions ≤ greatest_position_count) × IsTooLarge letters sizes positions (suc number) level count)
IsTooLarge _ _ parents number level count = ⊥

-- a level of this kind has no such array: a full one alone has its range in one, and of the others it has those that a run makes
abbrev pub Lacks : Letter → LevelArray → Type 0
Lacks letter OfSize = (properties letter).full ≡ false
Lacks letter OfEnds = IsNotMade letter OfEnds
Lacks letter OfWidth = IsNotMade letter OfWidth
Lacks letter OfCoordinates = IsNotMade letter OfCoordinates

-- the words of an array of the level of this number, if it is there and has the array
abbrev pub words_in : List StorageLevel → ℕ → LevelArray → Option (List ℕ)
words_in levels k array = words_of_level array (numbered levels k)

-- the same of an operand, and its values
abbrev pub stored_words : Option Storage → ℕ → LevelArray → Option (List ℕ)
stored_words None k array = None
stored_words (Some t) k array = words_in t.levels k array

abbrev pub stored_values : Option Storage → Option (List ℕ)
stored_values None = None
stored_values (Some t) = Some t.values

-- no array is there but those of the store: of each level of the result those that its kind has, of each operand those that its levels
-- have, and its values
pub record HaveNoMore (store : Store) (arrays : Arrays) : Type 0 where
  pub lacking : (i : ℕ) (letter : Letter) (array : LevelArray) → slice_get (letters_of store.format) i ≡ Some letter
      → Lacks letter array → arrays (array_of array 0 (suc i)) ≡ None
  pub above : (array : LevelArray) → arrays (array_of array 0 0) ≡ None
  pub behind : (k : ℕ) (array : LevelArray) → length (letters_of store.format) < k → arrays (array_of array 0 k) ≡ None
  pub operands : (i k : ℕ) (array : LevelArray)
      → arrays (array_of array (suc i) k) ≡ stored_words (slice_get store.operands i) k array
  pub values : (i : ℕ) → arrays (Values (suc i)) ≡ stored_values (slice_get store.operands i)
  pub scratch : (a : Arr) → is_scratch a ≡ true → arrays a ≡ None

-- the machine's state is one from which the kernel's run starts on arrays of the store, and on no others
pub record StartsOn (nothing : ℕ) (kernel : Kernel) (store : Store) (machine : Machine) : Type 0 where
  pub given : Arrays
  pub is_given : IsGiven nothing store given
  pub no_more : HaveNoMore store given
  pub is : state_of machine ≡ start_state kernel given

-- the kernel stands ready to run on the store: its code is resolved, its run starts on the store's arrays, each variable of the code has a
-- place, and nothing of the result was handed over yet
pub record IsReadyFor (a : Arithmetic) (kernel : Kernel) (store : Store) (p : Prepared) : Type 0 where
  pub kernel_is : p.kernel.now ≡ kernel
  pub order : p.order ≡ length store.format
  pub few : StartsFew (letters_of store.format) (result_sizes store) 1
  pub starts : StartsOn a.zero kernel store p.machine
  pub code_is : map erase p.code ≡ kernel.body
  pub room : room_of_code p.code ≤ variable_room p.machine
  pub building : p.builder ≡ building store.format (result_sizes store) (replicate (length store.format) no_words)

-- a refusal before the run: of the first level that can't be begun
abbrev pub IsBeginRefusal : Store → RunRefusal → Type 0
IsBeginRefusal store Memory = Unit {0}
IsBeginRefusal store (SizeLimit (Level level) count) = IsTooLarge (letters_of store.format) (result_sizes store) 1 1 level count
IsBeginRefusal store (SizeLimit Workspace count) = ⊥
