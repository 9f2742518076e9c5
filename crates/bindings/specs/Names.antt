-- The name of a tensor or of a variable, by its number.
use Rattle.std.specs.Prelude.{ℕ, List, [], Option, Some, None, slice_get}
use Rattle.index_notation.specs.declared.syntax.Name.{Name}

abbrev pub bytes_of : Option Name → List ℕ
bytes_of None = []
bytes_of (Some name) = name.bytes

-- its bytes, and none where there is no such name
abbrev pub name_at : List Name → ℕ → List ℕ
name_at names number = bytes_of (slice_get names number)
