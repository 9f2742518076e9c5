-- What a `.tns` file says, as the FROSTT page describes it: a line an entry, the coordinates from 1 and then the
-- value. Comments, lines without a token, and what is taken as a number are told here.
use Rattle.std.specs.Prelude.{ℕ, zero, suc, ◌+◌, ℤ, pos, negsuc, Bool, true, false, ◌==◌, nat_lt, List, [], ◌∷◌, length, Option, Some, None}
use Rattle.std.specs.Prelude.{Result, Ok, Err, if◌then◌else◌, slice_index}
use Rattle.limits.specs.Limits.{greatest_file_coordinate, greatest_line_bytes}
use Rattle.numbers.specs.Signed.{word_of_signed}
use Rattle.tensor_map.specs.Entries.{Entry}
use Rattle.text_lines.specs.Lines.{lines}
use Rattle.text_lines.specs.Numbers.{number_of, read_whole_of}
use Rattle.text_lines.specs.Tokens.{tokens}
use Rattle.text_lines.specs.declared.num_fault.NumFault.{NumFault}
use Rattle.text_lines.specs.declared.num_fault.NumFault.TheVariants.{NotNumber as NoNumber, NotWhole as NoWhole, NumRange as NoRange}
use Rattle.text_lines.specs.declared.line_kind.LineKind.{LineKind}
use Rattle.text_lines.specs.declared.line_kind.LineKind.TheVariants.{LongLine, Fields, NotNumber, NotWhole, NumRange, Negative}
use Rattle.text_lines.specs.declared.line_kind.LineKind.TheVariants.{ZeroCoordinate}

-- what may be wrong with a line of a `.tns` file
abbrev pub is_entry_kind : LineKind → Bool
is_entry_kind LongLine = true
is_entry_kind Fields = true
is_entry_kind NotNumber = true
is_entry_kind NotWhole = true
is_entry_kind NumRange = true
is_entry_kind Negative = true
is_entry_kind ZeroCoordinate = true
is_entry_kind _ = false

-- a coordinate, counted from 0, where the token is a number from 1 to the greatest that a file may have
abbrev pub coordinate_from : Option ℕ → Result ℕ LineKind
coordinate_from None = Err NotNumber
coordinate_from (Some zero) = Err ZeroCoordinate
coordinate_from (Some (suc c)) = if nat_lt c greatest_file_coordinate then Ok c else Err NumRange

abbrev pub coordinate_of : List ℕ → Result ℕ LineKind
coordinate_of token = coordinate_from (number_of token)

-- the word of a number. Where values have no sign, none is below 0
abbrev pub word_from : Bool → ℤ → Result ℕ LineKind
word_from signed (pos n) = Ok n
word_from signed (negsuc n) = if signed then Ok (word_of_signed (negsuc n)) else Err Negative

-- a value as a word, where the token is a whole number of 64 bits with a sign
abbrev pub value_from : Bool → Result ℤ NumFault → Result ℕ LineKind
value_from signed (Ok z) = word_from signed z
value_from signed (Err NoNumber) = Err NotNumber
value_from signed (Err NoWhole) = Err NotWhole
value_from signed (Err NoRange) = Err NumRange

abbrev pub value_of : Bool → List ℕ → Result ℕ LineKind
value_of signed token = value_from signed (read_whole_of token)

-- the entry without coordinates
abbrev pub value_alone : Result ℕ LineKind → Result Entry LineKind
value_alone (Err kind) = Err kind
value_alone (Ok v) = Ok (record { coords = []; value = v })

-- the coordinate before those of an entry, or the first fault
abbrev pub with_first : Result ℕ LineKind → Result Entry LineKind → Result Entry LineKind
with_first (Err kind) entry = Err kind
with_first (Ok c) (Err kind) = Err kind
with_first (Ok c) (Ok entry) = Ok (record { coords = c ∷ entry.coords; value = entry.value })

-- the last token is the value, those before it are the coordinates
abbrev pub entry_of : Bool → List (List ℕ) → Result Entry LineKind
entry_of signed [] = Err Fields
entry_of signed (token ∷ []) = value_alone (value_of signed token)
entry_of signed (token ∷ next ∷ more) = with_first (coordinate_of token) (entry_of signed (next ∷ more))

-- what a line is: skipped, an entry, or bad
pub data Reading : Type 0 where
  Skipped : Reading
  Read : Entry → Reading
  Bad : LineKind → Reading

abbrev pub read_or_bad : Result Entry LineKind → Reading
read_or_bad (Ok entry) = Read entry
read_or_bad (Err kind) = Bad kind

-- `#` begins a comment
abbrev pub is_comment : List ℕ → Bool
is_comment token = slice_index token 0 == 35

-- a line without a token and a comment are skipped; any other has one token more than there are modes
abbrev pub reading_of_tokens : Bool → ℕ → List (List ℕ) → Reading
reading_of_tokens signed order [] = Skipped
reading_of_tokens signed order (token ∷ more) =
    if is_comment token then Skipped else (if length more == order then read_or_bad (entry_of signed (token ∷ more)) else Bad Fields)

-- what the line is for a tensor of this order, whose values have a sign or none; no line may be too long, comments neither
abbrev pub reading : Bool → ℕ → List ℕ → Reading
reading signed order line =
    if nat_lt greatest_line_bytes (length line) then Bad LongLine else reading_of_tokens signed order (tokens line)

-- a bad line: its number in the file, counted from 1, and what is wrong with it
pub record BadLine : Type 0 where
  pub number : ℕ
  pub kind : LineKind

abbrev pub before_others : ℕ → Reading → Result (List Entry) BadLine → Result (List Entry) BadLine
before_others number Skipped others = others
before_others number (Bad kind) others = Err (record { number = number; kind = kind })
before_others number (Read entry) (Ok entries) = Ok (entry ∷ entries)
before_others number (Read entry) (Err bad) = Err bad

-- the entries of these lines, of which the first has this number, or the first bad line
abbrev pub entries_from : Bool → ℕ → ℕ → List (List ℕ) → Result (List Entry) BadLine
entries_from signed order number [] = Ok []
entries_from signed order number (line ∷ more) =
    before_others number (reading signed order line) (entries_from signed order (number + 1) more)

-- what the text of a file says for a tensor of this order, whose values have a sign or none. The tensor of its entries is told by
-- `value_at` and `Listed`: entries with equal coordinates are added, and an entry of value zero names its coordinates
abbrev pub entries_of_text : Bool → ℕ → List ℕ → Result (List Entry) BadLine
entries_of_text signed order text = entries_from signed order 1 (lines text)
