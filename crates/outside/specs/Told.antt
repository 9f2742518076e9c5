-- What a folder tells of a name: nothing, that there is no such file, or its bytes.
use Rattle.std.specs.Prelude.{Option, ℕ, List, [], ◌++◌, None, Some}

pub data Told : Type 0 where
  Untold : Told
  NoFile : Told
  Bytes : List ℕ → Told

-- the bytes, where they are told
abbrev pub told_bytes : Told → Option (List ℕ)
told_bytes Untold = None
told_bytes NoFile = None
told_bytes (Bytes b) = Some b

-- the file is made, or emptied
abbrev pub emptied : Told → Told
emptied Untold = Untold
emptied NoFile = Bytes []
emptied (Bytes b) = Bytes []

-- told bytes grow by a piece
abbrev pub grown : Told → List ℕ → Told
grown Untold piece = Untold
grown NoFile piece = NoFile
grown (Bytes b) piece = Bytes (b ++ piece)

-- P of the bytes, where they are told
abbrev pub IfBytes : Told → (List ℕ → Type 0) → Type 0
IfBytes Untold P = Unit {0}
IfBytes NoFile P = Unit {0}
IfBytes (Bytes b) P = P b
