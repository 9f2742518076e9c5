-- Names in rows, and accesses by numbers: names, tensors and variables apart, are numbered by first appearance.
use Rattle.std.specs.Prelude.{ℕ, ◌+◌, Bool, if◌then◌else◌, bytes_eq, List, [], ◌∷◌, ◌++◌, map}
use Rattle.index_notation.specs.declared.syntax.Name.{Name}
use Rattle.index_notation.specs.declared.syntax.Access.{Access}
use Rattle.index_notation.specs.declared.token.WrittenAccess.{WrittenAccess}

abbrev pub is_same : Name → Name → Bool
is_same a b = bytes_eq a.bytes b.bytes

-- the name with which a nested sum begins
abbrev pub sum_name : Name
sum_name = record { bytes = 115 ∷ 117 ∷ 109 ∷ [] }

-- the place of a name in a row, which is the row's length where it doesn't stand there
abbrev pub place_of : List Name → Name → ℕ
place_of [] name = 0
place_of (other ∷ names) name = if is_same other name then 0 else place_of names name + 1

-- a row without a name
abbrev pub without : Name → List Name → List Name
without name [] = []
without name (other ∷ names) = if is_same name other then without name names else other ∷ without name names

-- each name of a row once, in order of first appearance
abbrev pub distinct : List Name → List Name
distinct [] = []
distinct (name ∷ names) = name ∷ without name (distinct names)

abbrev pub name_of : WrittenAccess → Name
name_of access = access.name

-- the variables of accesses one after another
abbrev pub variables_of : List WrittenAccess → List Name
variables_of [] = []
variables_of (access ∷ accesses) = access.vars ++ variables_of accesses

-- an access by the numbers of its names
abbrev pub numbered : List Name → List Name → WrittenAccess → Access
numbered tensors vars access = record { tensor = place_of tensors access.name; vars = map (place_of vars) access.vars }
