-- The size line of a Matrix Market file: rows, columns and, for the coordinate form, the number of entries. With the
-- banner it tells which entry lines follow.
use Rattle.std.specs.Prelude.{ℕ, Bool, true, ◌&&◌, ◌||◌, not, ◌==◌, List, map, replicate, Option, Some, None, if◌then◌else◌}
use Rattle.std.specs.Option.{option_map}
use Rattle.std.specs.Result.{result_ok}
use Rattle.limits.specs.Limits.{greatest_matrix_size, greatest_matrix_entries}
use Rattle.text_lines.specs.Numbers.{read_index_of}
use Rattle.mtx_io.specs.Fields.{two_tokens, three_tokens}
use Rattle.mtx_io.specs.Places.{places}
use Rattle.mtx_io.specs.declared.banner.Banner.{Banner}
use Rattle.mtx_io.specs.declared.banner.Layout.{Layout}
use Rattle.mtx_io.specs.declared.banner.Layout.TheVariants.{Coordinate, Pattern, Array}
use Rattle.mtx_io.specs.declared.banner.Symmetry.{Symmetry}
use Rattle.mtx_io.specs.declared.banner.Symmetry.TheVariants.{General, Symmetric, SkewSymmetric}
use Rattle.mtx_io.specs.declared.header.Header.{Header}
use Rattle.mtx_io.specs.declared.place.Place.{Place}

-- what an entry line is to tell: its place and the value, the place of an entry whose value is known, or the value at a place that is
-- known
pub data Slot : Type 0 where
  Anywhere : Slot
  Valued : ℕ → Slot
  At : Place → Slot

-- the sizes of the matrix, and its entry lines in their order
pub record Sized : Type 0 where
  pub header : Header
  pub slots : List Slot

-- as many rows as columns, but for a general matrix
abbrev pub agree : Symmetry → ℕ → ℕ → Bool
agree General rows columns = true
agree Symmetric rows columns = rows == columns
agree SkewSymmetric rows columns = rows == columns

-- a tensor of order 1 is a matrix of one column
abbrev pub suits : ℕ → ℕ → Bool
suits order columns = not (order == 1) || (columns == 1)

-- the number of one or more digits, where it isn't greater
abbrev pub number_to : ℕ → List ℕ → Option ℕ
number_to greatest token = result_ok (read_index_of greatest token)

abbrev pub header_from : ℕ → Symmetry → Option ℕ → Option ℕ → Option Header
header_from order which None columns = None
header_from order which (Some rows) None = None
header_from order which (Some rows) (Some columns) =
    if agree which rows columns && suits order columns then Some
    (record { order = order; symmetry = which; rows = rows; columns = columns }) else None

abbrev pub header_of : ℕ → Symmetry → List ℕ → List ℕ → Option Header
header_of order which rows columns = header_from order which (number_to greatest_matrix_size rows) (number_to greatest_matrix_size columns)

-- so many entries, each on a line that is to tell this
abbrev pub entries_due : Slot → Option Header → Option ℕ → Option Sized
entries_due slot None count = None
entries_due slot (Some header) None = None
entries_due slot (Some header) (Some count) = Some (record { header = header; slots = replicate count slot })

-- a value for each place of the array
abbrev pub values_due : Header → Sized
values_due header = record { header = header; slots = map At (places header.symmetry header.rows header.columns) }

abbrev pub coordinate_size : Slot → ℕ → Symmetry → Option (List ℕ × List ℕ × List ℕ) → Option Sized
coordinate_size slot order which None = None
coordinate_size slot order which (Some words) =
    entries_due slot (header_of order which words.0 words.1) (number_to greatest_matrix_entries words.2)

abbrev pub array_size : ℕ → Symmetry → Option (List ℕ × List ℕ) → Option Sized
array_size order which None = None
array_size order which (Some words) = option_map values_due (header_of order which words.0 words.1)

abbrev pub size_by : ℕ → ℕ → Symmetry → Layout → List (List ℕ) → Option Sized
size_by one order symmetry Coordinate tokens = coordinate_size Anywhere order symmetry (three_tokens tokens)
size_by one order symmetry Pattern tokens = coordinate_size (Valued one) order symmetry (three_tokens tokens)
size_by one order symmetry Array tokens = array_size order symmetry (two_tokens tokens)

-- what the tokens of the size line say, for a tensor of this order, where each entry of a pattern has the value `one`
abbrev pub size_of : ℕ → ℕ → Banner → List (List ℕ) → Option Sized
size_of one order banner tokens = size_by one order banner.symmetry banner.layout tokens
