-- The entries of a matrix are below its sizes.
use Rattle.std.specs.Prelude.{◌≡◌, ℕ, zero, suc, ◌+◌, ◌-◌, ◌<◌, ◌≤◌, ◌==◌, ◌||◌, ◌&&◌, not, Bool, true, false, cond, nat_lt, nat_le}
use Rattle.std.specs.Prelude.{List, [], ◌∷◌}
use Rattle.std.specs.Prelude.{length, map, replicate, drop, All, Option, Some, None, IfSome, Result, Ok, Err, IfOk, refl}
use Rattle.std.specs.List.{range_with_len}
use Rattle.std.specs.Option.{option_map}
use Rattle.std.specs.Result.{result_ok}
use Rattle.std.proofs.Common.{arith, ap, subst, sym, ◌∙◌}
use Rattle.std.proofs.lemmas.Bool.{and_parts, leb-true, ltb-true, eqb-true, eq-eqb}
use Rattle.std.proofs.lemmas.List.Elements.{All-nil, All-cons, All-append, All-tail}
use Rattle.limits.specs.Limits.{greatest_file_coordinate, greatest_matrix_entries, greatest_matrix_size}
use Rattle.numbers.specs.Arithmetic.{Arithmetic}
use Rattle.tensor_map.specs.Entries.{Entry}
use Rattle.text_lines.specs.Cutting.{is_long}
use Rattle.text_lines.specs.Lines.{lines}
use Rattle.text_lines.specs.Numbers.{index_within, number_of}
use Rattle.text_lines.specs.Tokens.{tokens}
use Rattle.text_lines.specs.declared.num_fault.NumFault.TheVariants.{NumRange as OutOfRange}
use Rattle.mtx_io.specs.Banner.{needs_minus}
use Rattle.mtx_io.specs.Due.{IsWithin}
use Rattle.mtx_io.specs.Entry.{PlacedValue, index_from, index_of, value_of, place_from, placed, entry_of_two, entry_of_three}
use Rattle.mtx_io.specs.Entry.{entry_of, entry_of_one, coords_of}
use Rattle.mtx_io.specs.Entry.{own_entry, mirror_image, entries_by, entries_of}
use Rattle.mtx_io.specs.Fields.{one_token, two_tokens, three_tokens}
use Rattle.mtx_io.specs.Matrix.{NumberedLine, BadLine, numbered, kept, or_fault, banner_line, size_line, entry_due}
use Rattle.mtx_io.specs.Matrix.{entry_line}
use Rattle.mtx_io.specs.Matrix.{before_others, entries_from, matrix_with, behind_size, sized_from, behind_banner}
use Rattle.mtx_io.specs.Matrix.{matrix_from, matrix_of_text}
use Rattle.mtx_io.specs.Places.{first_row, column_from, columns_from, places}
use Rattle.mtx_io.specs.Progress.{IsMatrixOrder}
use Rattle.mtx_io.specs.Size.{Slot, Anywhere, Valued, At, Sized, agree, suits, number_to, header_from, header_of, entries_due, values_due}
use Rattle.mtx_io.specs.Size.{coordinate_size}
use Rattle.mtx_io.specs.Size.{array_size, size_by, size_of}
use Rattle.mtx_io.specs.SizeLaws.{IsOfSizes}
use Rattle.mtx_io.specs.Text.{IsBelow}
use Rattle.mtx_io.specs.declared.banner.Banner.{Banner}
use Rattle.mtx_io.specs.declared.banner.Layout.{Layout}
use Rattle.mtx_io.specs.declared.banner.Layout.TheVariants.{Coordinate, Pattern, Array}
use Rattle.mtx_io.specs.declared.banner.Symmetry.{Symmetry}
use Rattle.mtx_io.specs.declared.banner.Symmetry.TheVariants.{General, Symmetric, SkewSymmetric}
use Rattle.mtx_io.specs.declared.header.Header.{Header}
use Rattle.text_lines.specs.declared.line_kind.LineKind.{LineKind}
use Rattle.text_lines.specs.declared.line_kind.LineKind.TheVariants.{LongLine, BadSize, SkewDiagonal, NumRange, CoordRange}
use Rattle.mtx_io.specs.declared.place.Place.{Place}

-- the sizes go with the symmetry and the order
record AreSizes (order : ℕ) (header : Header) : Type 0 where
  order_is : header.order ≡ order
  agrees : agree header.symmetry header.rows header.columns ≡ true
  suitable : suits order header.columns ≡ true
  rows_small : header.rows ≤ greatest_matrix_size
  columns_small : header.columns ≤ greatest_matrix_size

abbrev IsSlot : Header → Slot → Type 0
IsSlot header Anywhere = Unit {0}
IsSlot header (Valued value) = Unit {0}
IsSlot header (At place) = IsWithin header place

record IsSizedWell (order : ℕ) (sized : Sized) : Type 0 where
  sizes : AreSizes order sized.header
  slots_in : All (IsSlot sized.header) sized.slots

-- the size line
number_small : (greatest : ℕ) (token : List ℕ) → IfSome (number_to greatest token) (λ n. n ≤ greatest)
number_small greatest token = by (number_of token)
  where
    within : (n : ℕ) (b : Bool) → nat_le n greatest ≡ b → IfSome (result_ok (cond b (Ok n) (Err OutOfRange))) (λ m. m ≤ greatest)
    within n true e = leb-true n greatest e
    within n false e = tt

    by : (number : Option ℕ) → IfSome (result_ok (index_within greatest number)) (λ n. n ≤ greatest)
    by None = tt
    by (Some n) = within n (nat_le n greatest) refl

header_well : (order : ℕ) (which : Symmetry) (rows columns : Option ℕ) → IfSome rows (λ n. n ≤ greatest_matrix_size)
    → IfSome columns (λ n. n ≤ greatest_matrix_size) → IfSome (header_from order which rows columns) (AreSizes order)
header_well order which None columns r c = tt
header_well order which (Some rows) None r c = tt
header_well order which (Some rows) (Some columns) r c = by (agree which rows columns && suits order columns) refl
  where
    header : Header
    header = record { order = order; symmetry = which; rows = rows; columns = columns }

    by : (b : Bool) → (agree which rows columns && suits order columns) ≡ b → IfSome (cond b (Some header) None) (AreSizes order)
    by false e = tt
    by true e =
        let parts = and_parts (agree which rows columns) (suits order columns) e in
        record { order_is = refl; agrees = parts.0; suitable = parts.1; rows_small = r; columns_small = c }

header_of_well : (order : ℕ) (which : Symmetry) (rows columns : List ℕ) → IfSome (header_of order which rows columns) (AreSizes order)
header_of_well order which rows columns =
    header_well order which (number_to greatest_matrix_size rows) (number_to greatest_matrix_size columns)
    (number_small greatest_matrix_size rows) (number_small greatest_matrix_size columns)

entries_well : (header : Header) (slot : Slot) → IsSlot header slot → (count : ℕ) → All (IsSlot header) (replicate count slot)
entries_well header slot well zero = All-nil (IsSlot header)
entries_well header slot well (suc count) =
    All-cons (IsSlot header) slot (replicate count slot) well (entries_well header slot well count)

-- places of an array
column_within : (header : Header) (row column count : ℕ) → count ≤ header.rows - row → column < header.columns
    → All (IsWithin header) (map (λ r. record { row = r; column = column }) (range_with_len row count))
column_within header row column zero fits here = All-nil (IsWithin header)
column_within header row column (suc count) fits here =
    All-cons (IsWithin header) (record { row = row; column = column })
    (map (λ r. record { row = r; column = column }) (range_with_len (row + 1) count))
    (record { row = omega arith; column = here }) (column_within header (row + 1) column count (omega arith) here)

columns_within : (header : Header) (column count : ℕ) → column + count ≤ header.columns
    → All (IsWithin header) (columns_from header.symmetry header.rows column count)
columns_within header column zero fits = All-nil (IsWithin header)
columns_within header column (suc count) fits =
    All-append (IsWithin header) (column_from header.rows (first_row header.symmetry column) column)
    (columns_from header.symmetry header.rows (column + 1) count)
    (column_within header (first_row header.symmetry column) column (header.rows - first_row header.symmetry column) (omega arith)
    (omega arith))
    (columns_within header (column + 1) count (omega arith))

slots_at : (header : Header) (all : List Place) → All (IsWithin header) all → All (IsSlot header) (map At all)
slots_at header [] each = All-nil (IsSlot header)
slots_at header (place ∷ all) each =
    All-cons (IsSlot header) (At place) (map At all) (each 0 place (omega arith))
    (slots_at header all (All-tail (IsWithin header) place all each))

size_well : (one order : ℕ) (banner : Banner) (words : List (List ℕ)) → IfSome (size_of one order banner words) (IsSizedWell order)
size_well one order banner words = by banner.layout
  where
    entries : (slot : Slot) → ((header : Header) → IsSlot header slot) → (header : Option Header) (count : Option ℕ)
        → IfSome header (AreSizes order) → IfSome (entries_due slot header count) (IsSizedWell order)
    entries slot well None count good = tt
    entries slot well (Some header) None good = tt
    entries slot well (Some header) (Some count) good =
        record { sizes = good; slots_in = entries_well header slot (well header) count }

    values : (header : Option Header) → IfSome header (AreSizes order) → IfSome (option_map values_due header) (IsSizedWell order)
    values None good = tt
    values (Some header) good = record {
      sizes = good;
      slots_in = slots_at header (places header.symmetry header.rows header.columns) (columns_within header 0 header.columns (omega arith));
    }

    three : (slot : Slot) → ((header : Header) → IsSlot header slot) → (t : Option (List ℕ × List ℕ × List ℕ))
        → IfSome (coordinate_size slot order banner.symmetry t) (IsSizedWell order)
    three slot well None = tt
    three slot well (Some t) = entries slot well (header_of order banner.symmetry t.0 t.1) (number_to greatest_matrix_entries t.2)
        (header_of_well order banner.symmetry t.0 t.1)

    two : (t : Option (List ℕ × List ℕ)) → IfSome (array_size order banner.symmetry t) (IsSizedWell order)
    two None = tt
    two (Some t) = values (header_of order banner.symmetry t.0 t.1) (header_of_well order banner.symmetry t.0 t.1)

    by : (layout : Layout) → IfSome (size_by one order banner.symmetry layout words) (IsSizedWell order)
    by Coordinate = three Anywhere (λ header. tt) (three_tokens words)
    by Pattern = three (Valued one) (λ header. tt) (three_tokens words)
    by Array = two (two_tokens words)

-- what an entry line tells
index_below : (size : ℕ) (number : Option ℕ) → IfOk (index_from size number) (λ i. i < size)
index_below size None = tt
index_below size (Some zero) = tt
index_below size (Some (suc i)) = by (nat_lt i greatest_file_coordinate) (nat_lt i size) refl
  where
    by : (file inside : Bool) → nat_lt i size ≡ inside
        → IfOk (cond file (cond inside (Ok i) (Err CoordRange)) (Err NumRange)) (λ j. j < size)
    by false inside e = tt
    by true false e = tt
    by true true e = ltb-true i size e

module _ (signed : Bool) (header : Header) where
  place_within : (which : Symmetry) (row column : Result ℕ LineKind) → IfOk row (λ i. i < header.rows)
      → IfOk column (λ j. j < header.columns)
      → IfOk (place_from which row column) (IsWithin header)
  place_within which (Err kind) column r c = tt
  place_within which (Ok row) (Err kind) r c = tt
  place_within which (Ok row) (Ok column) r c = by (needs_minus which && (row == column))
    where
      by : (b : Bool) → IfOk (cond b (Err SkewDiagonal) (Ok (record { row = row; column = column }))) (IsWithin header)
      by true = tt
      by false = record { row = r; column = c }

  placed_within : (place : Result Place LineKind) (value : Result ℕ LineKind) → IfOk place (IsWithin header)
      → IfOk (placed place value) (λ told. IsWithin header told.place)
  placed_within (Err kind) value within = tt
  placed_within (Ok place) (Err kind) within = tt
  placed_within (Ok place) (Ok value) within = within

  entry_within : (slot : Slot) (words : List (List ℕ)) → IsSlot header slot
      → IfOk (entry_of signed header slot words) (λ told. IsWithin header told.place)
  entry_within Anywhere words inside = by (three_tokens words)
    where
      by : (t : Option (List ℕ × List ℕ × List ℕ)) → IfOk (entry_of_three signed header t) (λ told. IsWithin header told.place)
      by None = tt
      by (Some t) =
          placed_within (place_from header.symmetry (index_of header.rows t.0) (index_of header.columns t.1)) (value_of signed t.2)
          (place_within header.symmetry (index_of header.rows t.0) (index_of header.columns t.1)
          (index_below header.rows (number_of t.0)) (index_below header.columns (number_of t.1)))
  entry_within (Valued value) words inside = by (two_tokens words)
    where
      by : (t : Option (List ℕ × List ℕ)) → IfOk (entry_of_two header value t) (λ told. IsWithin header told.place)
      by None = tt
      by (Some t) =
          placed_within (place_from header.symmetry (index_of header.rows t.0) (index_of header.columns t.1)) (Ok value)
          (place_within header.symmetry (index_of header.rows t.0) (index_of header.columns t.1)
          (index_below header.rows (number_of t.0)) (index_below header.columns (number_of t.1)))
  entry_within (At place) words inside = by (one_token words)
    where
      by : (t : Option (List ℕ)) → IfOk (entry_of_one signed place t) (λ told. IsWithin header told.place)
      by None = tt
      by (Some t) = placed_within (Ok place) (value_of signed t) inside

  due_within : (slots : List Slot) (words : List (List ℕ)) → All (IsSlot header) slots
      → IfOk (entry_due signed header slots words) (λ told. IsWithin header told.place)
  due_within [] words inside = tt
  due_within (slot ∷ slots) words inside = entry_within slot words (inside 0 slot (omega arith))

  line_within : (slots : List Slot) (line : List ℕ) → All (IsSlot header) slots
      → IfOk (entry_line signed header slots line) (λ told. IsWithin header told.place)
  line_within slots line inside = by (is_long line)
    where
      by : (b : Bool) → IfOk (cond b (Err LongLine) (entry_due signed header slots (tokens line))) (λ told. IsWithin header told.place)
      by true = tt
      by false = due_within slots (tokens line) inside

-- coordinates below the sizes
below_by : (order rows columns row column : ℕ) → IsMatrixOrder order → row < rows → column < columns
    → IsBelow (coords_of order rows columns) (coords_of order row column)
below_by order rows columns row column is r c = by (order == 1)
  where
    by : (b : Bool) → IsBelow (cond b (rows ∷ []) (rows ∷ columns ∷ [])) (cond b (row ∷ []) (row ∷ column ∷ []))
    by true = (r, tt)
    by false = (r, (c, tt))

module _ (a : Arithmetic) (signed : Bool) (order : ℕ) (is : IsMatrixOrder order) (header : Header) (sizes : AreSizes order header) where
  abbrev IsBelowSizes : Entry → Type 0
  IsBelowSizes entry = IsBelow (coords_of order header.rows header.columns) entry.coords

  own_below : (row column value : ℕ) → row < header.rows → column < header.columns
      → IsBelowSizes (record { coords = coords_of header.order row column; value = value })
  own_below row column value r c =
      subst (λ n. IsBelow (coords_of order header.rows header.columns) (coords_of n row column)) (sym sizes.order_is)
      (below_by order header.rows header.columns row column is r c)

  both_below : (told : PlacedValue) (value : ℕ) → header.rows ≡ header.columns → IsWithin header told.place
      → All IsBelowSizes (own_entry header.order told ∷ mirror_image header.order told value ∷ [])
  both_below told value square within =
      let r = within.row in
      let c = within.column in
      All-cons IsBelowSizes (own_entry header.order told) (mirror_image header.order told value ∷ [])
      (own_below told.place.row told.place.column told.value r c)
      (All-cons IsBelowSizes (mirror_image header.order told value) []
      (own_below told.place.column told.place.row value (omega (arith, r, c, square)) (omega (arith, r, c, square)))
      (All-nil IsBelowSizes))

  one_below : (told : PlacedValue) → IsWithin header told.place → All IsBelowSizes (own_entry header.order told ∷ [])
  one_below told within =
      All-cons IsBelowSizes (own_entry header.order told) []
      (own_below told.place.row told.place.column told.value within.row within.column) (All-nil IsBelowSizes)

  entries_below : (told : PlacedValue) → IsWithin header told.place → All IsBelowSizes (entries_of a header told)
  entries_below told within = by header.symmetry sizes.agrees
    where
      by : (which : Symmetry) → agree which header.rows header.columns ≡ true → All IsBelowSizes (entries_by a which header.order told)
      by General e = one_below told within
      by Symmetric e = mirrored (told.place.row == told.place.column)
        where
          mirrored : (b : Bool)
              → All IsBelowSizes (cond b (own_entry header.order told ∷ [])
              (own_entry header.order told ∷ mirror_image header.order told told.value ∷ []))
          mirrored true = one_below told within
          mirrored false = both_below told told.value (eqb-true header.rows header.columns e) within
      by SkewSymmetric e = both_below told (a.times a.minus_one told.value) (eqb-true header.rows header.columns e) within

  before_below : (number : ℕ) (what : Result PlacedValue LineKind) (others : Result (List Entry) BadLine)
      → IfOk what (λ told. IsWithin header told.place)
      → IfOk others (All IsBelowSizes) → IfOk (before_others a header number what others) (All IsBelowSizes)
  before_below number (Err kind) others within below = tt
  before_below number (Ok told) (Err bad) within below = tt
  before_below number (Ok told) (Ok entries) within below =
      All-append IsBelowSizes (entries_of a header told) entries (entries_below told within) below

  slots_left : (slots : List Slot) → All (IsSlot header) slots → All (IsSlot header) (drop 1 slots)
  slots_left [] inside = inside
  slots_left (slot ∷ slots) inside = All-tail (IsSlot header) slot slots inside

  lines_below : (end : ℕ) (slots : List Slot) (taken : List NumberedLine) → All (IsSlot header) slots
      → IfOk (entries_from a signed header end slots taken) (All IsBelowSizes)
  lines_below end [] [] inside = All-nil IsBelowSizes
  lines_below end (slot ∷ slots) [] inside = tt
  lines_below end slots (line ∷ more) inside =
      before_below line.number (entry_line signed header slots line.bytes) (entries_from a signed header end (drop 1 slots) more)
      (line_within signed header slots line.bytes inside) (lines_below end (drop 1 slots) more (slots_left slots inside))

-- a matrix with such a header
one_column : (order columns : ℕ) → suits order columns ≡ true → order ≡ 1 → columns ≡ 1
one_column order columns e is = eqb-true columns 1 (sym (ap (λ b. not b || (columns == 1)) (eq-eqb order 1 is)) ∙ e)

module _ (a : Arithmetic) (signed : Bool) (order : ℕ) (is : IsMatrixOrder order) where
  with_below : (header : Header) → AreSizes order header → (read : Result (List Entry) BadLine)
      → IfOk read (All (λ entry. IsBelow (coords_of order header.rows header.columns) entry.coords))
      → IfOk (matrix_with header read) (IsOfSizes order)
  with_below header sizes (Err bad) below = tt
  with_below header sizes (Ok entries) below = record {
    rows_small = sizes.rows_small;
    columns_small = sizes.columns_small;
    one_column = one_column order header.columns sizes.suitable;
    below = below;
  }

  behind_size_below : (end number : ℕ) (sized : Result Sized LineKind) (more : List NumberedLine) → IfOk sized (IsSizedWell order)
      → IfOk (behind_size a signed end number sized more) (IsOfSizes order)
  behind_size_below end number (Err kind) more well = tt
  behind_size_below end number (Ok sized) more well =
      with_below sized.header well.sizes (entries_from a signed sized.header end sized.slots more)
      (lines_below a signed order is sized.header well.sizes end sized.slots more well.slots_in)

  size_line_well : (banner : Banner) (line : List ℕ) → IfOk (size_line a.one order banner line) (IsSizedWell order)
  size_line_well banner line = by (is_long line) (size_of a.one order banner (tokens line)) (size_well a.one order banner (tokens line))
    where
      by : (b : Bool) (size : Option Sized) → IfSome size (IsSizedWell order)
          → IfOk (cond b (Err LongLine) (or_fault BadSize size)) (IsSizedWell order)
      by true size well = tt
      by false None well = tt
      by false (Some sized) well = well

  sized_below : (end : ℕ) (banner : Banner) (taken : List NumberedLine)
      → IfOk (sized_from a signed order end banner taken) (IsOfSizes order)
  sized_below end banner [] = tt
  sized_below end banner (line ∷ more) =
      behind_size_below end line.number (size_line a.one order banner line.bytes) more (size_line_well banner line.bytes)

  banner_below : (end number : ℕ) (banner : Result Banner LineKind) (more : List NumberedLine)
      → IfOk (behind_banner a signed order end number banner more) (IsOfSizes order)
  banner_below end number (Err kind) more = tt
  banner_below end number (Ok banner) more = sized_below end banner (kept more)

  matrix_below : (has_minus : Bool) (number : ℕ) (taken : List (List ℕ))
      → IfOk (matrix_from a has_minus signed order number taken) (IsOfSizes order)
  matrix_below has_minus number [] = tt
  matrix_below has_minus number (line ∷ more) =
      banner_below (number + length (line ∷ more)) number (banner_line has_minus line) (numbered (number + 1) more)

-- what a text says
pub text_below : (a : Arithmetic) (has_minus signed : Bool) (order : ℕ) (text : List ℕ) → IsMatrixOrder order
    → IfOk (matrix_of_text a has_minus signed order text) (IsOfSizes order)
text_below a has_minus signed order text is = matrix_below a signed order is has_minus 1 (lines text)
