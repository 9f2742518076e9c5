-- A written text, read again, stands for the tensor that was written.
use Rattle.std.specs.Prelude.{◌≡◌, ℕ, ◌+◌, ◌^◌, ◌<◌, Bool, false, List, ◌++◌, length, map, All, Result, Ok, Err}
use Rattle.std.specs.Fmt.{decimal, signed_decimal}
use Rattle.limits.specs.Limits.{greatest_file_coordinate}
use Rattle.numbers.specs.Arithmetic.{Arithmetic}
use Rattle.numbers.specs.Signed.{written_of}
use Rattle.tensor_map.specs.Entries.{Entry, value_at}
use Rattle.tns_io.specs.Positions.{IsBelow}
use Rattle.tns_io.specs.Reading.{BadLine}
use Rattle.tns_io.specs.Text.{coords_text}

-- the tokens of a written line, and the line without its end
abbrev pub coordinate_texts : List ℕ → List (List ℕ)
coordinate_texts coords = map (λ c. decimal (c + 1)) coords

abbrev pub bare_text : Bool → List ℕ → ℕ → List ℕ
bare_text signed coords value = coords_text coords ++ signed_decimal (written_of signed value)

-- a value that its text is read as: a word, and one of 63 bits where values have no sign
pub record IsReadBack (signed : Bool) (value : ℕ) : Type 0 where
  pub word : value < 2 ^ 64
  pub short : signed ≡ false → value < 2 ^ 63

-- coordinates that a file may have
abbrev pub AreInFile : List ℕ → Type 0
AreInFile coords = All (λ c. c < greatest_file_coordinate) coords

-- the entries of some places
abbrev pub entries_at : (List ℕ → ℕ) → List (List ℕ) → List Entry
entries_at value places = map (λ (coords : List ℕ). record { coords = coords; value = value coords }) places

-- a place that a file of this order may have, and its value
pub record IsPlace (signed : Bool) (order : ℕ) (value : List ℕ → ℕ) (coords : List ℕ) : Type 0 where
  pub long : length coords ≡ order
  pub in_file : AreInFile coords
  pub back : IsReadBack signed (value coords)

-- the entries stand for the tensor that has these values below the ranges, and zero elsewhere
abbrev pub StandsFor : Arithmetic → List ℕ → (List ℕ → ℕ) → Result (List Entry) BadLine → Type 0
StandsFor a ranges value (Err bad) = ⊥
StandsFor a ranges value (Ok entries) =
    ((coords : List ℕ) → IsBelow ranges coords → value_at a entries coords ≡ value coords)
    × ((coords : List ℕ) → (IsBelow ranges coords → ⊥) → value_at a entries coords ≡ a.zero)
