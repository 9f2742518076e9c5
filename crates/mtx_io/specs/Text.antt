-- The Matrix Market text of a tensor of order 1 or 2: the banner, the size line, and a line for each value that isn't zero.
use Rattle.std.specs.Prelude.{◌≡◌, ℕ, ◌+◌, ◌^◌, ◌<◌, Bool, List, [], ◌∷◌}
use Rattle.std.specs.Prelude.{◌++◌, length, All, codes, slice_index, slice_index_or}
use Rattle.std.specs.List.{flat_map}
use Rattle.std.specs.Fmt.{decimal, signed_decimal}
use Rattle.numbers.specs.Arithmetic.{Arithmetic}
use Rattle.numbers.specs.Signed.{written_of}
use Rattle.tensor_map.specs.Entries.{Entry, IsEntry, StrictlyIncreasing, NoneIsZero, value_at}

-- the coordinates are below the ranges, one for each
abbrev pub IsBelow : List ℕ → List ℕ → Type 0
IsBelow [] [] = Unit {0}
IsBelow (range ∷ ranges) (c ∷ coords) = (c < range) × IsBelow ranges coords
IsBelow _ _ = ⊥

-- three tokens with a blank between two, and a line feed
abbrev pub line_of : List ℕ → List ℕ → List ℕ → List ℕ
line_of first second third = (first ++ codes " ") ++ ((second ++ codes " ") ++ (third ++ codes "\n"))

abbrev pub banner_text : List ℕ
banner_text = codes "%%MatrixMarket matrix coordinate integer general\n"

-- a tensor of order 1 is a matrix of one column
abbrev pub rows_of : List ℕ → ℕ
rows_of ranges = slice_index ranges 0

abbrev pub columns_of : List ℕ → ℕ
columns_of ranges = slice_index_or ranges 1 1

abbrev pub row_of : List ℕ → ℕ
row_of coords = slice_index coords 0

abbrev pub column_of : List ℕ → ℕ
column_of coords = slice_index_or coords 1 0

abbrev pub size_text : List ℕ → ℕ → List ℕ
size_text ranges count = line_of (decimal (rows_of ranges)) (decimal (columns_of ranges)) (decimal count)

-- row and column are counted from 1; the value has its sign where values have one
abbrev pub entry_text : Bool → Entry → List ℕ
entry_text signed entry = line_of (decimal (row_of entry.coords + 1)) (decimal (column_of entry.coords + 1))
    (signed_decimal (written_of signed entry.value))

abbrev pub entries_text : Bool → List Entry → List ℕ
entries_text signed entries = flat_map (entry_text signed) entries

abbrev pub matrix_text : Bool → List ℕ → List Entry → List ℕ
matrix_text signed ranges entries = banner_text ++ (size_text ranges (length entries) ++ entries_text signed entries)

-- the text of the tensor with these values below the ranges, and zero elsewhere: its entries are those that aren't zero, in
-- lexicographic order of their coordinates
pub record IsMatrixText (a : Arithmetic) (signed : Bool) (ranges : List ℕ) (value : List ℕ → ℕ) (text : List ℕ) : Type 0 where
  pub entries : List Entry
  pub each : All (IsEntry (length ranges)) entries
  pub below : All (λ entry. IsBelow ranges entry.coords) entries
  pub increasing : StrictlyIncreasing entries
  pub nonzero : NoneIsZero a entries
  pub values : (coords : List ℕ) → value_at a entries coords ≡ value coords
  pub text_is : text ≡ matrix_text signed ranges entries

-- coordinates that can be counted from 1
abbrev pub AreSmall : List ℕ → Type 0
AreSmall coords = All (λ c. c + 1 < 2 ^ 64) coords
