-- The text of a tensor: a line for each coordinate list below the ranges whose value isn't zero.
use Rattle.std.specs.Prelude.{◌≡◌, ◌≢◌, ℕ, ◌+◌, ◌<◌, nat_eq, Bool, List, [], ◌∷◌}
use Rattle.std.specs.Prelude.{◌++◌, All, ◌⊎◌, ◌↔◌, if◌then◌else◌}
use Rattle.std.specs.List.{flat_map}
use Rattle.std.specs.Fmt.{decimal, signed_decimal}
use Rattle.limits.specs.Limits.{greatest_position_count}
use Rattle.numbers.specs.Arithmetic.{Arithmetic}
use Rattle.numbers.specs.Signed.{written_of}
use Rattle.tensor_map.specs.Order.{Increasing}
use Rattle.tensor_map.specs.Entries.{Entry}
use Rattle.tns_io.specs.Positions.{IsBelow}

-- each coordinate, counted from 1, and a blank behind it
abbrev pub coords_text : List ℕ → List ℕ
coords_text coords = flat_map (λ c. decimal (c + 1) ++ 32 ∷ []) coords

-- the coordinates, the value, with its sign where values have one, and a line feed
abbrev pub line_text : Bool → List ℕ → ℕ → List ℕ
line_text signed coords value = coords_text coords ++ (signed_decimal (written_of signed value) ++ 10 ∷ [])

-- the coordinate list is one of these
abbrev pub IsAmong : List (List ℕ) → List ℕ → Type 0
IsAmong [] coords = ⊥
IsAmong (place ∷ places) coords = (place ≡ coords) ⊎ IsAmong places coords

-- the places are in lexicographic order the coordinate lists below the ranges whose value isn't zero, and the text
-- is their lines, one after another
pub record IsTnsText (a : Arithmetic) (signed : Bool) (ranges : List ℕ) (value : List ℕ → ℕ) (text : List ℕ) : Type 0 where
  pub places : List (List ℕ)
  pub increasing : Increasing places
  pub exact : (coords : List ℕ) → IsAmong places coords ↔ (IsBelow ranges coords × (value coords ≢ a.zero))
  pub lines : text ≡ flat_map (λ coords. line_text signed coords (value coords)) places

-- the coordinates of each entry may stand in a tensor's storage
abbrev pub AreInRange : List Entry → Type 0
AreInRange entries = All (λ entry. All (λ c. c < greatest_position_count) entry.coords) entries

-- the line of an entry, and nothing where its value is zero
abbrev pub entry_text : Arithmetic → Bool → Entry → List ℕ
entry_text a signed entry = if nat_eq entry.value a.zero then [] else line_text signed entry.coords entry.value

-- the lines of entries, as they stand
abbrev pub entries_text : Arithmetic → Bool → List Entry → List ℕ
entries_text a signed entries = flat_map (entry_text a signed) entries
