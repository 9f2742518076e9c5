-- The tokens of a line, from the left.
use Rattle.std.specs.Prelude.{◌≡◌, ℕ, ◌+◌, ◌<◌, ◌==◌, List, ◌++◌, length}
use Rattle.std.specs.Prelude.{Bool, Option, Some, None, Result, Ok, Err, if◌then◌else◌}
use Rattle.tensor_map.specs.Entries.{Entry}
use Rattle.tns_io.specs.Reading.{Reading, entry_of}
use Rattle.tns_io.specs.Reading.Reading.{Skipped, Read, Bad}
use Rattle.text_lines.specs.declared.line_kind.LineKind.{LineKind}
use Rattle.text_lines.specs.declared.line_kind.LineKind.TheVariants.{Fields}

-- what an answer says of a line, whose coordinates were put aside
abbrev pub IsReading : Reading → List ℕ → Result (Option ℕ) LineKind → Type 0
IsReading reading coords (Ok None) = reading ≡ Skipped
IsReading reading coords (Ok (Some value)) = reading ≡ Read (record { coords = coords; value = value })
IsReading reading coords (Err kind) = reading ≡ Bad kind

-- the entry of a line that is neither skipped nor too long
abbrev pub fields_of : Bool → ℕ → List (List ℕ) → Result Entry LineKind
fields_of signed order tokens = if length tokens == order + 1 then entry_of signed tokens else Err Fields

abbrev pub IsEntry : Result Entry LineKind → List ℕ → Result ℕ LineKind → Type 0
IsEntry entry coords (Ok value) = entry ≡ Ok (record { coords = coords; value = value })
IsEntry entry coords (Err kind) = entry ≡ Err kind

-- what an answer says of tokens. A fault is theirs only where there are as many as there should be
abbrev pub IsEntryOf : Bool → ℕ → List (List ℕ) → List ℕ → Result ℕ LineKind → Type 0
IsEntryOf signed order tokens coords (Ok value) =
    (length tokens ≡ order + 1) × (entry_of signed tokens ≡ Ok (record { coords = coords; value = value }))
IsEntryOf signed order tokens coords (Err kind) = length tokens ≡ order + 1 → entry_of signed tokens ≡ Err kind

-- the entry with these coordinates in front
abbrev pub behind_coords : List ℕ → Result Entry LineKind → Result Entry LineKind
behind_coords coords (Err kind) = Err kind
behind_coords coords (Ok entry) = Ok (record { coords = coords ++ entry.coords; value = entry.value })

-- so many tokens are these coordinates, and these are left, whether values have a sign or none
pub record AreCoordinates (count : ℕ) (tokens : List (List ℕ)) (coords : List ℕ) (rest : List (List ℕ)) : Type 0 where
  pub long : length tokens ≡ count + length rest
  pub entry : (signed : Bool) → 0 < length rest → entry_of signed tokens ≡ behind_coords coords (entry_of signed rest)
