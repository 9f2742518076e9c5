-- What a Matrix Market file says, as NISTIR 5935 describes it: the banner on its first line, then the size line, then the
-- entry lines. Comments and lines without a token may stand anywhere behind the banner.
use Rattle.std.specs.Prelude.{ℕ, ◌+◌, Bool, ◌||◌, ◌&&◌, not, ◌==◌, List, []}
use Rattle.std.specs.Prelude.{◌∷◌, ◌++◌, length, filter, drop, Option, Some, None}
use Rattle.std.specs.Prelude.{Result, Ok, Err, if◌then◌else◌, slice_index}
use Rattle.numbers.specs.Arithmetic.{Arithmetic}
use Rattle.tensor_map.specs.Entries.{Entry}
use Rattle.text_lines.specs.Cutting.{is_long}
use Rattle.text_lines.specs.Lines.{lines}
use Rattle.text_lines.specs.Tokens.{tokens}
use Rattle.mtx_io.specs.Banner.{banner_of, needs_minus}
use Rattle.mtx_io.specs.Entry.{PlacedValue, entry_of, entries_of}
use Rattle.mtx_io.specs.Size.{Slot, Sized, size_of}
use Rattle.mtx_io.specs.declared.banner.Banner.{Banner}
use Rattle.mtx_io.specs.declared.header.Header.{Header}
use Rattle.text_lines.specs.declared.line_kind.LineKind.{LineKind}
use Rattle.text_lines.specs.declared.line_kind.LineKind.TheVariants.{LongLine, BadBanner, NoMinus, BadSize, Extra, Truncated}

-- a line with its number in the file, counted from 1
pub record NumberedLine : Type 0 where
  pub number : ℕ
  pub bytes : List ℕ

abbrev pub numbered : ℕ → List (List ℕ) → List NumberedLine
numbered number [] = []
numbered number (line ∷ more) = record { number = number; bytes = line } ∷ numbered (number + 1) more

-- `%` begins a comment; comments and lines without a token are skipped, but no line may be too long
abbrev pub is_skipped : List ℕ → Bool
is_skipped line = not (is_long line) && ((slice_index line 0 == 37) || (length (tokens line) == 0))

abbrev pub is_kept : NumberedLine → Bool
is_kept line = not (is_skipped line.bytes)

-- the lines that aren't skipped
abbrev pub kept : List NumberedLine → List NumberedLine
kept all = filter is_kept all

-- a bad line: its number in the file, counted from 1, and what is wrong with it
pub record BadLine : Type 0 where
  pub number : ℕ
  pub kind : LineKind

-- the matrix that a file stands for: both sizes and its entries. The tensor of the entries is told by `value_at` and
-- `Listed`: entries at equal coordinates are added, and an entry of value zero names its coordinates
pub record Matrix : Type 0 where
  pub rows : ℕ
  pub columns : ℕ
  pub entries : List Entry

-- what a line should be, if it isn't too long
abbrev pub unless_long : {X : Type 0} → List ℕ → Result X LineKind → Result X LineKind
unless_long line what = if is_long line then Err LongLine else what

abbrev pub or_fault : {X : Type 0} → LineKind → Option X → Result X LineKind
or_fault kind None = Err kind
or_fault kind (Some x) = Ok x

-- without a minus there are no skew-symmetric matrices
abbrev pub with_minus : Bool → Banner → Result Banner LineKind
with_minus has_minus banner = if needs_minus banner.symmetry && not has_minus then Err NoMinus else Ok banner

abbrev pub banner_within : Bool → Result Banner LineKind → Result Banner LineKind
banner_within has_minus (Err kind) = Err kind
banner_within has_minus (Ok banner) = with_minus has_minus banner

abbrev pub banner_line : Bool → List ℕ → Result Banner LineKind
banner_line has_minus line = unless_long line (banner_within has_minus (or_fault BadBanner (banner_of (tokens line))))

abbrev pub size_line : ℕ → ℕ → Banner → List ℕ → Result Sized LineKind
size_line one order banner line = unless_long line (or_fault BadSize (size_of one order banner (tokens line)))

-- what is due on an entry line, or that none is
abbrev pub entry_due : Bool → Header → List Slot → List (List ℕ) → Result PlacedValue LineKind
entry_due signed header [] tokens = Err Extra
entry_due signed header (slot ∷ slots) tokens = entry_of signed header slot tokens

abbrev pub entry_line : Bool → Header → List Slot → List ℕ → Result PlacedValue LineKind
entry_line signed header slots line = unless_long line (entry_due signed header slots (tokens line))

-- the entries of a line before those of the lines behind it
abbrev pub before_others : Arithmetic → Header → ℕ → Result PlacedValue LineKind → Result (List Entry) BadLine → Result (List Entry) BadLine
before_others a header number (Err kind) others = Err (record { number = number; kind = kind })
before_others a header number (Ok told) (Err bad) = Err bad
before_others a header number (Ok told) (Ok entries) = Ok (entries_of a header told ++ entries)

-- the file ends at the line number `end`, where these entry lines are still due
abbrev pub entries_at_end : ℕ → List Slot → Result (List Entry) BadLine
entries_at_end end [] = Ok []
entries_at_end end (slot ∷ slots) = Err (record { number = end; kind = Truncated })

-- the entries of these lines, one line for each slot, or the first fault: a line that is bad or one too many, or the end of
-- the file before the last entry
abbrev pub entries_from : Arithmetic → Bool → Header → ℕ → List Slot → List NumberedLine → Result (List Entry) BadLine
entries_from a signed header end slots [] = entries_at_end end slots
entries_from a signed header end slots (line ∷ more) =
    before_others a header line.number (entry_line signed header slots line.bytes) (entries_from a signed header end (drop 1 slots) more)

abbrev pub matrix_with : Header → Result (List Entry) BadLine → Result Matrix BadLine
matrix_with header (Err bad) = Err bad
matrix_with header (Ok entries) = Ok (record { rows = header.rows; columns = header.columns; entries = entries })

abbrev pub behind_size : Arithmetic → Bool → ℕ → ℕ → Result Sized LineKind → List NumberedLine → Result Matrix BadLine
behind_size a signed end number (Err kind) more = Err (record { number = number; kind = kind })
behind_size a signed end number (Ok sized) more = matrix_with sized.header (entries_from a signed sized.header end sized.slots more)

-- of the lines that are kept behind the banner the first is the size line
abbrev pub sized_from : Arithmetic → Bool → ℕ → ℕ → Banner → List NumberedLine → Result Matrix BadLine
sized_from a signed order end banner [] = Err (record { number = end; kind = Truncated })
sized_from a signed order end banner (line ∷ more) = behind_size a signed end line.number (size_line a.one order banner line.bytes) more

abbrev pub behind_banner : Arithmetic → Bool → ℕ → ℕ → ℕ → Result Banner LineKind → List NumberedLine → Result Matrix BadLine
behind_banner a signed order end number (Err kind) more = Err (record { number = number; kind = kind })
behind_banner a signed order end number (Ok banner) more = sized_from a signed order end banner (kept more)

-- what a file of these lines says for a tensor of this order, or the first bad line. The first line has this number
abbrev pub matrix_from : Arithmetic → Bool → Bool → ℕ → ℕ → List (List ℕ) → Result Matrix BadLine
matrix_from a has_minus signed order number [] = Err (record { number = number; kind = BadBanner })
matrix_from a has_minus signed order number (line ∷ more) =
    behind_banner a signed order (number + length (line ∷ more)) number (banner_line has_minus line) (numbered (number + 1) more)

-- what the text of a file says, where values have a minus or none, and a sign or none
abbrev pub matrix_of_text : Arithmetic → Bool → Bool → ℕ → List ℕ → Result Matrix BadLine
matrix_of_text a has_minus signed order text = matrix_from a has_minus signed order 1 (lines text)
