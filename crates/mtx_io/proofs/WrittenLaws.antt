-- Lemmas about what specs/WrittenLaws.antt defines.
use Rattle.std.specs.Prelude.{◌≡◌, ◌≢◌, ℕ, pos, negsuc, ◌+◌, ◌-◌, ◌^◌, ◌<◌, ◌≤◌, ◌==◌, ◌||◌, ◌&&◌, not, Bool, true, false, cond, nat_lt}
use Rattle.std.specs.Prelude.{List, [], ◌∷◌, ◌++◌, length, map, replicate, All, Some, Ok, Err, codes, refl, slice_index, filter}
use Rattle.std.specs.Fmt.{decimal, signed_decimal}
use Rattle.std.specs.List.{list_all}
use Rattle.std.specs.Result.{result_ok}
use Rattle.std.proofs.Common.{arith, inl, inr, ap, subst, sym, ◌∙◌, append_assoc, length-append, add-one, lit≤}
use Rattle.std.proofs.lemmas.Bool.{ne_eqb, lt-ltb, le-leb, le-ltb, ltb-true, ltb-false, and_parts}
use Rattle.std.proofs.lemmas.List.Elements.{All-nil, All-cons, All-append, All-tail, All-weaker, All-filter}
use Rattle.limits.specs.Limits.{greatest_file_coordinate, greatest_line_bytes, greatest_matrix_size, greatest_matrix_entries}
use Rattle.limits.proofs.Limits.{file_coordinates_are_ranges, matrix_sizes_are_ranges, matrix_entries_are_small, positions_are_small}
use Rattle.limits.proofs.Limits.{some_file_coordinates}
use Rattle.numbers.specs.Arithmetic.{Arithmetic, Laws}
use Rattle.numbers.specs.Signed.{written_of}
use Rattle.tensor_map.specs.Entries.{Entry, IsEntry, value_at, is_nonzero, StrictlyIncreasing}
use Rattle.tensor_map.proofs.Lemmas.{value_nonzero, increasing_filter, none_zero_filter, all_nonzero, one_row}
use Rattle.text_lines.specs.Cutting.{is_long}
use Rattle.text_lines.specs.LineLaws.{IsLine, joined_lines}
use Rattle.text_lines.proofs.LineLaws.{lines_joined}
use Rattle.text_lines.specs.Lines.{lines}
use Rattle.text_lines.proofs.NumberLaws.{number_of_decimal, read_whole_of_signed_decimal}
use Rattle.text_lines.specs.Numbers.{fits_word, index_within}
use Rattle.text_lines.specs.declared.num_fault.NumFault.TheVariants.{NumRange as OutOfRange}
use Rattle.text_lines.specs.PrintedLaws.{IsFilled}
use Rattle.text_lines.proofs.PrintedLaws.{decimal_filled, decimal_is_token, decimal_short, signed_filled, signed_decimal_is_token}
use Rattle.text_lines.proofs.PrintedLaws.{signed_short, high_line}
use Rattle.text_lines.specs.TokenLaws.{IsToken}
use Rattle.text_lines.proofs.TokenLaws.{tokens_more, tokens_last}
use Rattle.text_lines.specs.Tokens.{tokens}
use Rattle.mtx_io.specs.Entry.{PlacedValue, index_from, index_of, word_from, value_from, value_of, placed, place_from, coords_of}
use Rattle.mtx_io.specs.Entry.{entries_of}
use Rattle.mtx_io.specs.Matrix.{NumberedLine, is_skipped, numbered, kept, or_fault, banner_line, size_line, entry_due, entry_line}
use Rattle.mtx_io.specs.Matrix.{before_others, entries_from, matrix_with, behind_size, sized_from, behind_banner, matrix_from}
use Rattle.mtx_io.specs.Matrix.{matrix_of_text}
use Rattle.mtx_io.specs.Progress.{IsMatrixOrder}
use Rattle.mtx_io.specs.Size.{Slot, Anywhere, number_to, header_from, entries_due, size_of}
use Rattle.mtx_io.specs.Text.{IsBelow, line_of, banner_text, rows_of, columns_of, row_of, column_of, entry_text, entries_text}
use Rattle.mtx_io.specs.Text.{matrix_text, IsMatrixText}
use Rattle.mtx_io.specs.WrittenLaws.{bare_line, IsReadBack, StandsFor}
use Rattle.mtx_io.specs.declared.banner.Banner.{Banner}
use Rattle.mtx_io.specs.declared.banner.Layout.TheVariants.{Coordinate}
use Rattle.mtx_io.specs.declared.banner.Symmetry.TheVariants.{General}
use Rattle.mtx_io.specs.declared.header.Header.{Header}
use Rattle.text_lines.specs.declared.line_kind.LineKind.TheVariants.{LongLine, BadSize, CoordRange, NumRange}

-- a value is read back from the number that is written for it, which is one of 64 bits
back_by : (v : ℕ) (b : Bool) → nat_lt v (2 ^ 63) ≡ b → v < 2 ^ 64 → word_from true (cond b (pos v) (negsuc (2 ^ 64 - 1 - v))) ≡ Ok v
back_by v true e h = refl
back_by v false e h = let same : 2 ^ 64 - 1 - (2 ^ 64 - 1 - v) ≡ v = omega arith in ap (λ (x : ℕ). Ok x) same

written_back : (signed : Bool) (v : ℕ) → IsReadBack signed v → word_from signed (written_of signed v) ≡ Ok v
written_back true v back = back_by v (nat_lt v (2 ^ 63)) refl back.word
written_back false v back = refl

fits_by : (v : ℕ) (b : Bool) → nat_lt v (2 ^ 63) ≡ b → v < 2 ^ 64 → fits_word (cond b (pos v) (negsuc (2 ^ 64 - 1 - v))) ≡ true
fits_by v true e h = e
fits_by v false e h = let high : 2 ^ 63 ≤ v = ltb-false v (2 ^ 63) e in lt-ltb (2 ^ 64 - 1 - v) (2 ^ 63) (omega arith)

written_fits : (signed : Bool) (v : ℕ) → IsReadBack signed v → fits_word (written_of signed v) ≡ true
written_fits true v back = fits_by v (nat_lt v (2 ^ 63)) refl back.word
written_fits false v back = lt-ltb v (2 ^ 63) (back.short refl)

-- texts that stand on a line: tokens of filled bytes, of which none is long
record IsPrinted (text : List ℕ) : Type 0 where
  token : IsToken text
  filled : All IsFilled text
  short : length text ≤ 21

decimal_printed : (n : ℕ) → n < 2 ^ 64 → IsPrinted (decimal n)
decimal_printed n h = let short =
    decimal_short n h in record { token = decimal_is_token n h; filled = decimal_filled n h; short = omega arith }

value_printed : (signed : Bool) (v : ℕ) → IsReadBack signed v → IsPrinted (signed_decimal (written_of signed v))
value_printed signed v back = let fits = written_fits signed v back in record {
  token = signed_decimal_is_token (written_of signed v) fits;
  filled = signed_filled (written_of signed v) fits;
  short = signed_short (written_of signed v) fits;
}

lines_have_room : 66 ≤ greatest_line_bytes
unfolding greatest_line_bytes
lines_have_room = lit≤ tt

first_filled : (text rest : List ℕ) → 0 < length text → All IsFilled text → slice_index (text ++ rest) 0 ≢ 37
first_filled [] rest some filled e = absurd (omega arith)
first_filled (x ∷ text) rest some filled e = let high = filled 0 x (omega arith) in absurd (omega (arith, high, e))

-- a line of three of them
module _ (a b c : List ℕ) (pa : IsPrinted a) (pb : IsPrinted b) (pc : IsPrinted c) where
  bare_parts : bare_line a b c ≡ a ++ 32 ∷ (b ++ 32 ∷ c)
  bare_parts = append_assoc a (32 ∷ []) ((b ++ 32 ∷ []) ++ c) ∙ ap (λ rest. a ++ 32 ∷ rest) (append_assoc b (32 ∷ []) c)

  bare_tokens : tokens (bare_line a b c) ≡ a ∷ b ∷ c ∷ []
  bare_tokens =
      ap tokens bare_parts
      ∙ tokens_more a (b ++ 32 ∷ c) pa.token
      ∙ ap (λ (ts : List (List ℕ)). a ∷ ts) (tokens_more b c pb.token ∙ ap (λ (ts : List (List ℕ)). b ∷ ts) (tokens_last c pc.token))

  bare_short : is_long (bare_line a b c) ≡ false
  bare_short = le-ltb greatest_line_bytes (length (bare_line a b c)) (
      let one = pa.short in let two = pb.short in let three = pc.short in
      omega (
        arith,
        lines_have_room,
        one,
        two,
        three,
        length-append (a ++ 32 ∷ []) ((b ++ 32 ∷ []) ++ c),
        length-append a (32 ∷ []),
        length-append (b ++ 32 ∷ []) c,
        length-append b (32 ∷ []),
      ))

  bare_is_line : IsLine (bare_line a b c)
  bare_is_line = high_line (bare_line a b c) (
      All-append (λ byte. 13 < byte) (a ++ 32 ∷ []) ((b ++ 32 ∷ []) ++ c) (blank_high a pa)
      (All-append (λ byte. 13 < byte) (b ++ 32 ∷ []) c (blank_high b pb) (high c pc)))
    where
      high : (t : List ℕ) → IsPrinted t → All (λ byte. 13 < byte) t
      high t p = All-weaker IsFilled (λ byte. 13 < byte) (λ x filled. omega arith) t p.filled

      blank_high : (t : List ℕ) → IsPrinted t → All (λ byte. 13 < byte) (t ++ 32 ∷ [])
      blank_high t p = All-append (λ byte. 13 < byte) t (32 ∷ []) (high t p)
          (All-cons (λ byte. 13 < byte) 32 [] (omega arith) (All-nil (λ byte. 13 < byte)))

  bare_not_comment : (slice_index (bare_line a b c) 0 == 37) ≡ false
  bare_not_comment = ne_eqb (slice_index (bare_line a b c) 0) 37
      (λ e. first_filled a (32 ∷ (b ++ 32 ∷ c)) pa.token.some pa.filled (sym (ap (λ line. slice_index line 0) bare_parts) ∙ e))

  bare_kept : is_skipped (bare_line a b c) ≡ false
  bare_kept =
      (λ i. not (bare_short i) && (bare_not_comment i || (length (bare_tokens i) == 0)))

  line_is_bare : line_of a b c ≡ bare_line a b c ++ 10 ∷ []
  line_is_bare =
      ap (λ rest. (a ++ 32 ∷ []) ++ rest) (sym (append_assoc (b ++ 32 ∷ []) c (10 ∷ [])))
      ∙ sym (append_assoc (a ++ 32 ∷ []) ((b ++ 32 ∷ []) ++ c) (10 ∷ []))

-- the banner
bare_banner : List ℕ
bare_banner = codes "%%MatrixMarket matrix coordinate integer general"

all_high : (bytes : List ℕ) → list_all (λ byte. nat_lt 13 byte) bytes ≡ true → All (λ byte. 13 < byte) bytes
all_high [] e = All-nil (λ byte. 13 < byte)
all_high (x ∷ bytes) e =
    let parts = and_parts (nat_lt 13 x) (list_all (λ byte. nat_lt 13 byte) bytes) e in
    All-cons (λ byte. 13 < byte) x bytes (ltb-true 13 x parts.0) (all_high bytes parts.1)

banner_is_line : IsLine bare_banner
unfolding bare_banner
banner_is_line = high_line (codes "%%MatrixMarket matrix coordinate integer general")
    (all_high (codes "%%MatrixMarket matrix coordinate integer general") refl)

banner_is_bare : banner_text ≡ bare_banner ++ 10 ∷ []
unfolding bare_banner
banner_is_bare = refl

general : Banner
general = record { layout = Coordinate; symmetry = General }

banner_read : (has_minus : Bool) → banner_line has_minus bare_banner ≡ Ok general
unfolding bare_banner general greatest_line_bytes
banner_read has_minus = refl

-- the numbers of a size line
number_read : (greatest n : ℕ) → n ≤ greatest → n < 2 ^ 64 → number_to greatest (decimal n) ≡ Some n
number_read greatest n h fits =
    ap (λ number. result_ok (index_within greatest number)) (number_of_decimal n fits)
    ∙ ap (λ b. result_ok (cond b (Ok n) (Err OutOfRange))) (le-leb n greatest h)

some_sizes : 1 ≤ greatest_matrix_size
unfolding greatest_matrix_size
some_sizes = lit≤ tt

-- what ranges may be written
record AreRanges (ranges : List ℕ) : Type 0 where
  order : IsMatrixOrder (length ranges)
  sizes : All (λ range. range ≤ greatest_matrix_size) ranges
  file : All (λ range. range ≤ greatest_file_coordinate) ranges

abbrev written_header : List ℕ → Header
written_header ranges = record { order = length ranges; symmetry = General; rows = rows_of ranges; columns = columns_of ranges }

size_fits : (n : ℕ) → n ≤ greatest_matrix_size → n < 2 ^ 64
size_fits n h = let wide : 2 ^ 62 ≤ 2 ^ 64 = lit≤ tt in omega (arith, matrix_sizes_are_ranges, positions_are_small)

rows_small : (ranges : List ℕ) → AreRanges ranges → rows_of ranges ≤ greatest_matrix_size
rows_small [] are = elim are.order [ inl e ↦ absurd (omega arith) | inr e ↦ absurd (omega arith) ]
rows_small (range ∷ ranges) are = are.sizes 0 0 (omega arith)

columns_small : (ranges : List ℕ) → AreRanges ranges → columns_of ranges ≤ greatest_matrix_size
columns_small [] are = some_sizes
columns_small (range ∷ []) are = some_sizes
columns_small (range ∷ next ∷ ranges) are = are.sizes 1 0 (omega arith)

header_read : (ranges : List ℕ) → AreRanges ranges
    → header_from (length ranges) General (Some (rows_of ranges)) (Some (columns_of ranges)) ≡ Some (written_header ranges)
header_read [] are = elim are.order [ inl e ↦ absurd (omega arith) | inr e ↦ absurd (omega arith) ]
header_read (range ∷ []) are = refl
header_read (range ∷ next ∷ []) are = refl
header_read (range ∷ next ∷ more ∷ ranges) are = elim are.order [ inl e ↦ absurd (omega arith) | inr e ↦ absurd (omega arith) ]

bare_size : List ℕ → ℕ → List ℕ
bare_size ranges count = bare_line (decimal (rows_of ranges)) (decimal (columns_of ranges)) (decimal count)

module _ (ranges : List ℕ) (are : AreRanges ranges) where
  rows_printed : IsPrinted (decimal (rows_of ranges))
  rows_printed = decimal_printed (rows_of ranges) (size_fits (rows_of ranges) (rows_small ranges are))

  columns_printed : IsPrinted (decimal (columns_of ranges))
  columns_printed = decimal_printed (columns_of ranges) (size_fits (columns_of ranges) (columns_small ranges are))

  count_fits : (count : ℕ) → count ≤ greatest_matrix_entries → count < 2 ^ 64
  count_fits count h = let wide : 2 ^ 62 ≤ 2 ^ 64 = lit≤ tt in omega (arith, matrix_entries_are_small)

  size_read : (one count : ℕ) → count ≤ greatest_matrix_entries
      → size_line one (length ranges) general (bare_size ranges count) ≡ Ok
      (record { header = written_header ranges; slots = replicate count Anywhere })
  unfolding bare_size general
  size_read one count few =
      let printed = decimal_printed count (count_fits count few) in
      let a : List ℕ = decimal (rows_of ranges) in
      let b : List ℕ = decimal (columns_of ranges) in
      let c : List ℕ = decimal count in
      ap (λ long. cond long (Err LongLine) (or_fault BadSize (size_of one (length ranges) general (tokens (bare_line a b c)))))
      (bare_short a b c rows_printed columns_printed printed)
      ∙ ap (λ ts. or_fault BadSize (size_of one (length ranges) general ts)) (bare_tokens a b c rows_printed columns_printed printed)
      ∙ (λ i. or_fault BadSize (entries_due Anywhere (header_from (length ranges) General
      (number_read greatest_matrix_size (rows_of ranges) (rows_small ranges are) (size_fits (rows_of ranges) (rows_small ranges are)) i)
      (number_read greatest_matrix_size (columns_of ranges) (columns_small ranges are)
      (size_fits (columns_of ranges) (columns_small ranges are)) i))
      (number_read greatest_matrix_entries count few (count_fits count few) i)))
      ∙ ap (λ header. or_fault BadSize (entries_due Anywhere header (Some count))) (header_read ranges are)

-- a place below the ranges
place_below : (ranges coords : List ℕ) → IsMatrixOrder (length ranges) → IsBelow ranges coords
    → (row_of coords < rows_of ranges) × (column_of coords < columns_of ranges) ×
    (coords_of (length ranges) (row_of coords) (column_of coords) ≡ coords)
place_below [] coords order below = elim order [ inl e ↦ absurd (omega arith) | inr e ↦ absurd (omega arith) ]
place_below (range ∷ []) [] order below = absurd below
place_below (range ∷ []) (c ∷ []) order below = (below.0, omega arith, refl)
place_below (range ∷ []) (c ∷ d ∷ coords) order below = absurd below.1
place_below (range ∷ next ∷ []) [] order below = absurd below
place_below (range ∷ next ∷ []) (c ∷ []) order below = absurd below.1
place_below (range ∷ next ∷ []) (c ∷ d ∷ []) order below = (below.0, below.1.0, refl)
place_below (range ∷ next ∷ []) (c ∷ d ∷ e ∷ coords) order below = absurd below.1.1
place_below (range ∷ next ∷ more ∷ ranges) coords order below = elim order [ inl e ↦ absurd (omega arith) | inr e ↦ absurd (omega arith) ]

row_in_file : (ranges : List ℕ) → AreRanges ranges → rows_of ranges ≤ greatest_file_coordinate
row_in_file [] are = omega arith
row_in_file (range ∷ ranges) are = are.file 0 0 (omega arith)

column_in_file : (ranges : List ℕ) → AreRanges ranges → columns_of ranges ≤ greatest_file_coordinate
column_in_file [] are = some_file_coordinates
column_in_file (range ∷ []) are = some_file_coordinates
column_in_file (range ∷ next ∷ ranges) are = are.file 1 0 (omega arith)

file_word : (i : ℕ) → i < greatest_file_coordinate → i + 1 < 2 ^ 64
file_word i h = let wide : 2 ^ 62 ≤ 2 ^ 64 = lit≤ tt in omega (arith, file_coordinates_are_ranges, positions_are_small)

index_read : (size i : ℕ) → i < size → i < greatest_file_coordinate → index_of size (decimal (i + 1)) ≡ Ok i
index_read size i h file =
    ap (index_from size) (number_of_decimal (i + 1) (file_word i file) ∙ ap Some (add-one i))
    ∙ ap (λ b. cond b (cond (nat_lt i size) (Ok i) (Err CoordRange)) (Err NumRange)) (lt-ltb i greatest_file_coordinate file)
    ∙ ap (λ b. cond b (Ok i) (Err CoordRange)) (lt-ltb i size h)

value_read : (signed : Bool) (v : ℕ) → IsReadBack signed v → value_of signed (signed_decimal (written_of signed v)) ≡ Ok v
value_read signed v back =
    ap (value_from signed) (read_whole_of_signed_decimal (written_of signed v) (written_fits signed v back)) ∙ written_back signed v back

bare_entry : Bool → Entry → List ℕ
bare_entry signed entry = bare_line (decimal (row_of entry.coords + 1)) (decimal (column_of entry.coords + 1))
    (signed_decimal (written_of signed entry.value))

abbrev placed_entry : Entry → PlacedValue
placed_entry entry = record { place = record { row = row_of entry.coords; column = column_of entry.coords }; value = entry.value }

-- an entry's line
module _ (signed : Bool) (ranges : List ℕ) (are : AreRanges ranges) (entry : Entry) (below : IsBelow ranges entry.coords)
    (back : IsReadBack signed entry.value)
  where
    place : (row_of entry.coords < rows_of ranges) × (column_of entry.coords < columns_of ranges) ×
        (coords_of (length ranges) (row_of entry.coords) (column_of entry.coords) ≡ entry.coords)
    place = place_below ranges entry.coords are.order below

    row_file : row_of entry.coords < greatest_file_coordinate
    row_file = let h = place.0 in omega (arith, h, row_in_file ranges are)

    column_file : column_of entry.coords < greatest_file_coordinate
    column_file = let h = place.1 in omega (arith, h, column_in_file ranges are)

    row_printed : IsPrinted (decimal (row_of entry.coords + 1))
    row_printed = decimal_printed (row_of entry.coords + 1) (file_word (row_of entry.coords) row_file)

    column_printed : IsPrinted (decimal (column_of entry.coords + 1))
    column_printed = decimal_printed (column_of entry.coords + 1) (file_word (column_of entry.coords) column_file)

    entry_is_line : IsLine (bare_entry signed entry)
    unfolding bare_entry
    entry_is_line = bare_is_line _ _ _ row_printed column_printed (value_printed signed entry.value back)

    entry_kept : is_skipped (bare_entry signed entry) ≡ false
    unfolding bare_entry
    entry_kept = bare_kept _ _ _ row_printed column_printed (value_printed signed entry.value back)

    entry_read : (slots : List Slot)
        → entry_line signed (written_header ranges) (Anywhere ∷ slots) (bare_entry signed entry) ≡ Ok (placed_entry entry)
    unfolding bare_entry
    entry_read slots =
        let a : List ℕ = decimal (row_of entry.coords + 1) in
        let b : List ℕ = decimal (column_of entry.coords + 1) in
        let c : List ℕ = signed_decimal (written_of signed entry.value) in
        let printed = value_printed signed entry.value back in
        ap (λ long. cond long (Err LongLine) (entry_due signed (written_header ranges) (Anywhere ∷ slots) (tokens (bare_line a b c))))
        (bare_short a b c row_printed column_printed printed)
        ∙ ap (entry_due signed (written_header ranges) (Anywhere ∷ slots)) (bare_tokens a b c row_printed column_printed printed)
        ∙ (λ i. placed (place_from General (index_read (rows_of ranges) (row_of entry.coords) place.0 row_file i)
        (index_read (columns_of ranges) (column_of entry.coords) place.1 column_file i)) (value_read signed entry.value back i))

    entry_back : (a : Arithmetic) (others : List Entry)
        → entries_of a (written_header ranges) (placed_entry entry) ++ others ≡ entry ∷ others
    entry_back a others = ap (λ (coords : List ℕ). record { coords = coords; value = entry.value } ∷ others) place.2

-- what is known of the entries that are written
record AreWritten (signed : Bool) (ranges : List ℕ) (entries : List Entry) : Type 0 where
  back : All (λ entry. IsReadBack signed entry.value) entries
  below : All (λ entry. IsBelow ranges entry.coords) entries

tail_written : (signed : Bool) (ranges : List ℕ) (entry : Entry) (entries : List Entry) → AreWritten signed ranges (entry ∷ entries)
    → AreWritten signed ranges entries
tail_written signed ranges entry entries written = record {
  back = All-tail (λ e. IsReadBack signed e.value) entry entries written.back;
  below = All-tail (λ e. IsBelow ranges e.coords) entry entries written.below;
}

first_back : (signed : Bool) (ranges : List ℕ) (entry : Entry) (entries : List Entry) → AreWritten signed ranges (entry ∷ entries)
    → IsReadBack signed entry.value
first_back signed ranges entry entries written = written.back 0 entry (omega arith)

first_below : (signed : Bool) (ranges : List ℕ) (entry : Entry) (entries : List Entry) → AreWritten signed ranges (entry ∷ entries)
    → IsBelow ranges entry.coords
first_below signed ranges entry entries written = written.below 0 entry (omega arith)

module _ (signed : Bool) (ranges : List ℕ) (are : AreRanges ranges) where
  -- the lines of the entries
  entries_are_lines : (entries : List Entry) → AreWritten signed ranges entries → All IsLine (map (bare_entry signed) entries)
  entries_are_lines [] written = All-nil IsLine
  entries_are_lines (entry ∷ entries) written =
      All-cons IsLine (bare_entry signed entry) (map (bare_entry signed) entries)
      (entry_is_line signed ranges are entry (first_below signed ranges entry entries written)
      (first_back signed ranges entry entries written))
      (entries_are_lines entries (tail_written signed ranges entry entries written))

  entry_is_bare : (entry : Entry) → IsBelow ranges entry.coords → IsReadBack signed entry.value
      → entry_text signed entry ≡ bare_entry signed entry ++ 10 ∷ []
  unfolding bare_entry
  entry_is_bare entry below back =
      line_is_bare _ _ _ (row_printed signed ranges are entry below back) (column_printed signed ranges are entry below back)
      (value_printed signed entry.value back)

  entries_joined : (entries : List Entry) → AreWritten signed ranges entries
      → entries_text signed entries ≡ joined_lines (map (bare_entry signed) entries)
  entries_joined [] written = refl
  entries_joined (entry ∷ entries) written =
      (λ i. entry_is_bare entry (first_below signed ranges entry entries written) (first_back signed ranges entry entries written) i
      ++ entries_joined
      entries (tail_written signed ranges entry entries written) i)

  -- they are read as the entries
  entries_read : (a : Arithmetic) (end number : ℕ) (entries : List Entry) → AreWritten signed ranges entries
      → entries_from a signed (written_header ranges) end (replicate (length entries) Anywhere)
      (kept (numbered number (map (bare_entry signed) entries))) ≡ Ok entries
  entries_read a end number [] written = refl
  entries_read a end number (entry ∷ entries) written =
      let below = first_below signed ranges entry entries written in
      let back = first_back signed ranges entry entries written in
      let h : Header = written_header ranges in
      let slots : List Slot = replicate (length entries) Anywhere in
      let rest : List NumberedLine = kept (numbered (number + 1) (map (bare_entry signed) entries)) in
      let line : NumberedLine = record { number = number; bytes = bare_entry signed entry } in
      ap (λ b. entries_from a signed h end (Anywhere ∷ slots) (cond (not b) (line ∷ rest) rest))
      (entry_kept signed ranges are entry below back)
      ∙ ap (λ what. before_others a h number what (entries_from a signed h end slots rest))
      (entry_read signed ranges are entry below back slots)
      ∙ ap (before_others a h number (Ok (placed_entry entry)))
      (entries_read a end (number + 1) entries (tail_written signed ranges entry entries written))
      ∙ ap (λ (all : List Entry). Ok all) (entry_back signed ranges are entry below back a entries)

  -- the whole text
  text_lines_are : (entries : List Entry) → AreWritten signed ranges entries → length entries ≤ greatest_matrix_entries
      → lines (matrix_text signed ranges entries) ≡ bare_banner ∷ bare_size ranges (length entries) ∷ map (bare_entry signed) entries
  unfolding bare_size
  text_lines_are entries written few =
      let printed = decimal_printed (length entries) (count_fits ranges are (length entries) few) in
      let all : List (List ℕ) = bare_banner ∷ bare_size ranges (length entries) ∷ map (bare_entry signed) entries in
      let size = line_is_bare _ _ _ (rows_printed ranges are) (columns_printed ranges are) printed in
      (λ i. lines (banner_is_bare i ++ (size i ++ entries_joined entries written i)))
      ∙ lines_joined all (All-cons IsLine bare_banner (bare_size ranges (length entries) ∷ map (bare_entry signed) entries) banner_is_line
      (All-cons IsLine (bare_size ranges (length entries)) (map (bare_entry signed) entries)
      (bare_is_line _ _ _ (rows_printed ranges are) (columns_printed ranges are) printed) (entries_are_lines entries written)))

  size_kept : (count : ℕ) → count ≤ greatest_matrix_entries → is_skipped (bare_size ranges count) ≡ false
  unfolding bare_size
  size_kept count few =
      bare_kept _ _ _ (rows_printed ranges are) (columns_printed ranges are) (decimal_printed count (count_fits ranges are count few))

  text_read : (a : Arithmetic) (has_minus : Bool) (entries : List Entry) → AreWritten signed ranges entries
      → length entries ≤ greatest_matrix_entries
      → matrix_of_text a has_minus signed (length ranges) (matrix_text signed ranges entries) ≡ Ok
      (record { rows = rows_of ranges; columns = columns_of ranges; entries = entries })
  unfolding general
  text_read a has_minus entries written few =
      let order : ℕ = length ranges in
      let size : List ℕ = bare_size ranges (length entries) in
      let rest : List (List ℕ) = map (bare_entry signed) entries in
      let end : ℕ = 1 + length (bare_banner ∷ size ∷ rest) in
      let others : List NumberedLine = kept (numbered 3 rest) in
      ap (matrix_from a has_minus signed order 1) (text_lines_are entries written few)
      ∙ ap (λ banner. behind_banner a signed order end 1 banner (numbered 2 (size ∷ rest))) (banner_read has_minus)
      ∙ ap (λ b. sized_from a signed order end general (cond (not b) (record { number = 2; bytes = size } ∷ others) others))
      (size_kept (length entries) few)
      ∙ ap (λ sized. behind_size a signed end 2 sized others) (size_read ranges are a.one (length entries) few)
      ∙ ap (matrix_with (written_header ranges)) (entries_read a end 3 entries written)

-- what entries are written as is the text of their tensor
pub text_of_entries : (a : Arithmetic) (signed : Bool) → Laws a → (ranges : List ℕ) (entries : List Entry)
    → All (IsEntry (length ranges)) entries
    → All (λ entry. IsBelow ranges entry.coords) entries
    → StrictlyIncreasing entries
    → IsMatrixText a signed ranges (value_at a entries) (matrix_text signed ranges (filter (is_nonzero a) entries))
text_of_entries a signed laws ranges entries each below up = record {
  entries = filter (is_nonzero a) entries;
  each = All-filter (is_nonzero a) (IsEntry (length ranges)) entries each;
  below = All-filter (is_nonzero a) (λ entry. IsBelow ranges entry.coords) entries below;
  increasing = increasing_filter (is_nonzero a) entries up;
  nonzero = none_zero_filter a entries;
  values = λ coords. value_nonzero a laws coords entries;
  text_is = refl;
}

-- a tensor has one text at most
pub one_text : (a : Arithmetic) (signed : Bool) → Laws a → (ranges : List ℕ) (value : List ℕ → ℕ) (first second : List ℕ)
    → IsMatrixText a signed ranges value first → IsMatrixText a signed ranges value second → first ≡ second
one_text a signed laws ranges value first second one two =
    let same : one.entries ≡ two.entries = one_row a laws one.entries two.entries one.increasing two.increasing
    (all_nonzero a (length ranges) one.entries one.each one.nonzero) (all_nonzero a (length ranges) two.entries two.each two.nonzero)
    (λ coords. one.values coords ∙ sym (two.values coords)) in
    one.text_is ∙ ap (matrix_text signed ranges) same ∙ sym two.text_is

-- a written text, read again, stands for the tensor that was written
pub written_stands : (a : Arithmetic) (has_minus signed : Bool) (ranges : List ℕ) (value : List ℕ → ℕ) (text : List ℕ)
    (is : IsMatrixText a signed ranges value text) → IsMatrixOrder (length ranges) → All (λ range. range ≤ greatest_matrix_size) ranges
    → All (λ range. range ≤ greatest_file_coordinate) ranges → length is.entries ≤ greatest_matrix_entries
    → (signed ≡ false → All (λ entry. entry.value < 2 ^ 63) is.entries)
    → StandsFor a ranges value (matrix_of_text a has_minus signed (length ranges) text)
written_stands a has_minus signed ranges value text is order sizes file few short =
    let are : AreRanges ranges = record { order = order; sizes = sizes; file = file } in
    let written : AreWritten signed ranges is.entries = record {
      back = λ k d h. record { word = (is.each k d h).word; short = λ none. short none k d h };
      below = is.below;
    } in
    subst (StandsFor a ranges value)
    (sym (ap (matrix_of_text a has_minus signed (length ranges)) is.text_is
    ∙ text_read signed ranges are a has_minus is.entries written few))
    (refl, refl, is.values)
