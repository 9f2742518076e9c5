-- What a list of files in memory tells of a name.
use Rattle.std.specs.Prelude.{Option, None, Some, List, [], ◌∷◌, ℕ, ◌≡◌, ◌≢◌, ◌<◌}
use Rattle.std.specs.Prelude.{◌≤◌, length, if◌then◌else◌, slice_get, string_bytes}
use Rattle.std.specs.Option.{option_map, option_and_then}
use Rattle.std.specs.Str.{bytes_eq}
use Rattle.outside.specs.Told.{Told, NoFile, Bytes}
use Rattle.outside.specs.declared.memory_file.MemoryFile.{MemoryFile}

-- the bytes of the first file of this name
abbrev pub told : List MemoryFile → List ℕ → Told
told [] name = NoFile
told (file ∷ files) name = if bytes_eq (string_bytes file.name) name then Bytes file.bytes.items else told files name

-- the name of the file at this place, if there is one
abbrev pub name_at : List MemoryFile → ℕ → Option (List ℕ)
name_at files i = option_map (λ file. string_bytes file.name) (slice_get files i)

-- the name of the file at this place, if there is a place
abbrev pub name_of : List MemoryFile → Option ℕ → Option (List ℕ)
name_of files place = option_and_then (name_at files) place

-- no file before this place has this name
abbrev pub IsNewName : List MemoryFile → ℕ → List ℕ → Type 0
IsNewName files i name = (k : ℕ) → k < i → name_at files k ≢ Some name

-- this is the place of the first file of this name
pub record IsFirst (files : List MemoryFile) (i : ℕ) (name : List ℕ) : Type 0 where
  pub named : name_at files i ≡ Some name
  pub before : IsNewName files i name

-- a name's file is made or changed to what is told now, and nothing else changes
pub record Changes (old new : List MemoryFile) (name : List ℕ) (now : Told) : Type 0 where
  pub told_is : told new name ≡ now
  pub others : (other : List ℕ) → other ≢ name → told new other ≡ told old other
  pub names : (k : ℕ) → k < length old → name_at new k ≡ name_at old k
  pub grows : length old ≤ length new

-- there is a file at this place, and no file before it has its name
pub record IsFirstOfName (files : List MemoryFile) (i : ℕ) : Type 0 where
  pub within : i < length files
  pub before : (k : ℕ) → k < i → name_at files k ≢ name_at files i

-- what is left of a file, where one is read
abbrev pub rest_of : Option ℕ → List ℕ → Option (List ℕ)
rest_of None rest = None
rest_of (Some place) rest = Some rest
