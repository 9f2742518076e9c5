-- The entry lines of a Matrix Market file: what each tells, what is wrong with it, and the entries that it gives the matrix.
use Rattle.std.specs.Prelude.{ℕ, zero, suc, ℤ, pos, negsuc, Bool, ◌&&◌, ◌==◌, nat_lt, List, [], ◌∷◌}
use Rattle.std.specs.Prelude.{Option, Some, None, Result, Ok, Err, if◌then◌else◌}
use Rattle.limits.specs.Limits.{greatest_file_coordinate}
use Rattle.numbers.specs.Arithmetic.{Arithmetic}
use Rattle.numbers.specs.Signed.{word_of_signed}
use Rattle.tensor_map.specs.Entries.{Entry}
use Rattle.text_lines.specs.Numbers.{number_of, read_whole_of}
use Rattle.text_lines.specs.declared.num_fault.NumFault.{NumFault}
use Rattle.text_lines.specs.declared.num_fault.NumFault.TheVariants.{NotNumber as NoNumber, NotWhole as NoWhole, NumRange as NoRange}
use Rattle.mtx_io.specs.Banner.{needs_minus}
use Rattle.mtx_io.specs.Fields.{one_token, two_tokens, three_tokens}
use Rattle.mtx_io.specs.Size.{Slot, Anywhere, Valued, At}
use Rattle.mtx_io.specs.declared.banner.Symmetry.{Symmetry}
use Rattle.mtx_io.specs.declared.banner.Symmetry.TheVariants.{General, Symmetric, SkewSymmetric}
use Rattle.mtx_io.specs.declared.header.Header.{Header}
use Rattle.text_lines.specs.declared.line_kind.LineKind.{LineKind}
use Rattle.text_lines.specs.declared.line_kind.LineKind.TheVariants.{Fields, NotNumber, NotWhole, NumRange, Negative, ZeroCoordinate}
use Rattle.text_lines.specs.declared.line_kind.LineKind.TheVariants.{CoordRange, SkewDiagonal}
use Rattle.mtx_io.specs.declared.place.Place.{Place}
pub use Rattle.mtx_io.specs.declared.place.PlacedValue.{PlacedValue}

-- a row or a column, counted from 0, of so many: the token counts from 1
abbrev pub index_from : ℕ → Option ℕ → Result ℕ LineKind
index_from size None = Err NotNumber
index_from size (Some zero) = Err ZeroCoordinate
index_from size (Some (suc i)) =
    if nat_lt i greatest_file_coordinate then (if nat_lt i size then Ok i else Err CoordRange) else Err NumRange

abbrev pub index_of : ℕ → List ℕ → Result ℕ LineKind
index_of size token = index_from size (number_of token)

-- the word of a number. Where values have no sign, none is below 0
abbrev pub word_from : Bool → ℤ → Result ℕ LineKind
word_from signed (pos n) = Ok n
word_from signed (negsuc n) = if signed then Ok (word_of_signed (negsuc n)) else Err Negative

-- a value as a word, where the token is a whole number of 64 bits with a sign
abbrev pub value_from : Bool → Result ℤ NumFault → Result ℕ LineKind
value_from signed (Ok z) = word_from signed z
value_from signed (Err NoNumber) = Err NotNumber
value_from signed (Err NoWhole) = Err NotWhole
value_from signed (Err NoRange) = Err NumRange

abbrev pub value_of : Bool → List ℕ → Result ℕ LineKind
value_of signed token = value_from signed (read_whole_of token)

-- the diagonal of a skew-symmetric matrix is zero and is not told
abbrev pub place_at : Symmetry → ℕ → ℕ → Result Place LineKind
place_at which row column = if needs_minus which && (row == column) then Err SkewDiagonal else Ok (record { row = row; column = column })

-- the row first, and then the column
abbrev pub place_from : Symmetry → Result ℕ LineKind → Result ℕ LineKind → Result Place LineKind
place_from which (Err kind) column = Err kind
place_from which (Ok row) (Err kind) = Err kind
place_from which (Ok row) (Ok column) = place_at which row column

-- the place first, and then the value
abbrev pub placed : Result Place LineKind → Result ℕ LineKind → Result PlacedValue LineKind
placed (Err kind) value = Err kind
placed (Ok place) (Err kind) = Err kind
placed (Ok place) (Ok value) = Ok (record { place = place; value = value })

abbrev pub entry_of_three : Bool → Header → Option (List ℕ × List ℕ × List ℕ) → Result PlacedValue LineKind
entry_of_three signed header None = Err Fields
entry_of_three signed header (Some words) =
    placed (place_from header.symmetry (index_of header.rows words.0) (index_of header.columns words.1)) (value_of signed words.2)

-- a line that tells where an entry of this value stands
abbrev pub entry_of_two : Header → ℕ → Option (List ℕ × List ℕ) → Result PlacedValue LineKind
entry_of_two header value None = Err Fields
entry_of_two header value (Some words) =
    placed (place_from header.symmetry (index_of header.rows words.0) (index_of header.columns words.1)) (Ok value)

abbrev pub entry_of_one : Bool → Place → Option (List ℕ) → Result PlacedValue LineKind
entry_of_one signed place None = Err Fields
entry_of_one signed place (Some token) = placed (Ok place) (value_of signed token)

-- what the tokens of an entry line tell, where values have a sign or none
abbrev pub entry_of : Bool → Header → Slot → List (List ℕ) → Result PlacedValue LineKind
entry_of signed header Anywhere tokens = entry_of_three signed header (three_tokens tokens)
entry_of signed header (Valued value) tokens = entry_of_two header value (two_tokens tokens)
entry_of signed header (At place) tokens = entry_of_one signed place (one_token tokens)

-- the coordinates of a place: in a tensor of order 1 the row alone
abbrev pub coords_of : ℕ → ℕ → ℕ → List ℕ
coords_of order row column = if order == 1 then row ∷ [] else row ∷ column ∷ []

abbrev pub own_entry : ℕ → PlacedValue → Entry
own_entry order told = record { coords = coords_of order told.place.row told.place.column; value = told.value }

-- the entry with this value on the other side of the diagonal
abbrev pub mirror_image : ℕ → PlacedValue → ℕ → Entry
mirror_image order told value = record { coords = coords_of order told.place.column told.place.row; value = value }

-- the entry told, and its mirror image: with the same value in a symmetric matrix, where it isn't on the diagonal, and with
-- the value negated in a skew-symmetric one
abbrev pub entries_by : Arithmetic → Symmetry → ℕ → PlacedValue → List Entry
entries_by a General order told = own_entry order told ∷ []
entries_by a Symmetric order told =
    if told.place.row == told.place.column then own_entry order told ∷ []
    else own_entry order told ∷ mirror_image order told told.value ∷ []
entries_by a SkewSymmetric order told = own_entry order told ∷ mirror_image order told (a.times a.minus_one told.value) ∷ []

abbrev pub entries_of : Arithmetic → Header → PlacedValue → List Entry
entries_of a header told = entries_by a header.symmetry header.order told
