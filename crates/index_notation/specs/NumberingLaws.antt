-- Names that stand in rows, and a test with its answer.
use Rattle.std.specs.Prelude.{◌≡◌, ◌<◌, Bool, true, false, List, length}
use Rattle.index_notation.specs.declared.syntax.Name.{Name}
use Rattle.index_notation.specs.Numbering.{place_of}

-- a name stands in a row
abbrev pub Stands : List Name → Name → Type 0
Stands names name = place_of names name < length names

-- a test's answer, with its equation
pub data Tested (b : Bool) : Type 0 where
  yes : b ≡ true → Tested b
  no : b ≡ false → Tested b

-- what stands in one row stands in the other
abbrev pub Within : List Name → List Name → Type 0
Within names others = (name : Name) → Stands names name → Stands others name
