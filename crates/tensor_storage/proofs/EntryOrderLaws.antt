-- The rows that an order of entries tells, by its numbers and columns.
use Rattle.std.specs.Prelude.{◌≡◌, ◌⊎◌, ℕ, ◌≤◌, ◌<◌, List, [], length, slice_get, slice_index, Some, None}
use Rattle.std.specs.List.{range_with_len}
use Rattle.std.proofs.Common.{◌∙◌, sym, ap, inl, inr, arith, get_or}
use Rattle.std.proofs.Math.ListN.{get_or-eq_default}
use Rattle.std.proofs.lemmas.Grind.{same_number_lists}
use Rattle.std.proofs.lemmas.List.{length-map, get_or-map}
use Rattle.std.proofs.lemmas.List.FromFn.{length-range_with_len}
use Rattle.std.proofs.lemmas.Option.{slice_get_cases, slice_get_within, get_or_from_slice_get}
use Rattle.format_spec.specs.declared.format.FormatLevel.{FormatLevel}
use Rattle.tensor_map.specs.Entries.{Entry, column_in, values_in}
use Rattle.tensor_storage.specs.declared.entries.EntryOrder.{EntryOrder}
use Rattle.tensor_storage.specs.declared.entries.EntryOrder.TheVariants.{Own}
use Rattle.tensor_storage.specs.Arranged.{no_entry, level_coords, table_of}
use Rattle.tensor_storage.specs.Columns.{column_of, AreColumns}
use Rattle.tensor_storage.specs.EntryOrders.{numbers_of}
use Rattle.tensor_storage.specs.Tables.{level_column, row_values}
use Rattle.tensor_storage.proofs.Arranging.{number_at, level_coord}
use Rattle.tensor_storage.proofs.Tables.{column_long as level_long, column_at as level_at, values_long, value_at}

-- in their own order there are as many rows as entries, each the entry of its number
pub own_count : (count : ℕ) (order : EntryOrder) → order ≡ Own → count ≡ length (numbers_of count order)
own_count count order is = rw is (sym (length-range_with_len 0 count))

pub own_number : (count : ℕ) (order : EntryOrder) (row : ℕ) → order ≡ Own → row < length (numbers_of count order)
    → row ≡ slice_index (numbers_of count order) row
own_number count order row is h = let within = rw is at h in rw is (sym (number_at count row within))

-- a column has a coordinate for each number
module _ (format : List FormatLevel) (entries : List Entry) (numbers : List ℕ) (columns : List (List ℕ))
    (are : AreColumns format entries numbers columns) (level row : ℕ) (h : row < length numbers) where
  column_is : (column : List ℕ) → slice_get columns level ≡ Some column → column ≡ column_of format entries numbers level
  column_is column e = sym (get_or_from_slice_get columns level column [] e) ∙ are.each level (slice_get_within columns level column e)

  pub column_long : (column : List ℕ) → slice_get columns level ≡ Some column → row < length column
  column_long column e =
      let long : length column ≡ length numbers =
      ap length (column_is column e) ∙ length-map numbers (λ number. slice_index (level_coords format entries number) level) in
      omega (arith, long, h)

  pub column_at : (column : List ℕ) → slice_get columns level ≡ Some column
      → slice_index column row ≡ slice_index (level_coords format entries (slice_index numbers row)) level
  column_at column e = ap (λ xs. slice_index xs row) (column_is column e)
      ∙ get_or-map (λ number. slice_index (level_coords format entries number) level) numbers row 0 0 h

  -- and where there is no column there is no level
  pub no_column : slice_get columns level ≡ None → 0 ≡ slice_index (level_coords format entries (slice_index numbers row)) level
  no_column e = sym (get_or-eq_default (level_coords format entries (slice_index numbers row)) 0 behind)
    where
      by_place : {A B : Type 0} → A ⊎ B → (A → length columns ≤ level) → (B → length columns ≤ level) → length columns ≤ level
      by_place (inl a) f g = f a
      by_place (inr b) f g = g b

      past : length columns ≤ level
      past = by_place (slice_get_cases columns level).1 (λ found. absurd (let some = found.2 in cc)) (λ gone. gone.0)

      behind : length (level_coords format entries (slice_index numbers row)) ≤ level
      behind =
          let long : length (level_coords format entries (slice_index numbers row)) ≡ length format =
          length-map format (λ l. slice_index (get_or entries (slice_index numbers row) no_entry).coords l.mode) in
          let many = are.as_many in
          omega (arith, long, past, many)

-- in their own order the coordinates of entries in a mode are those of its level
pub own_column : (format : List FormatLevel) (entries : List Entry) (level mode : ℕ) (d : FormatLevel) → level < length format
    → mode ≡ (get_or format level d).mode
    → column_in entries mode ≡ level_column (table_of format entries (range_with_len 0 (length entries))) level
own_column format entries level mode d within is =
    let numbers = range_with_len 0 (length entries) in
    let table = table_of format entries numbers in
    let all : length numbers ≡ length entries = length-range_with_len 0 (length entries) in
    let long : length (column_in entries mode) ≡ length entries = length-map entries (λ entry. slice_index entry.coords mode) in
    same_number_lists (column_in entries mode) (level_column table level) (long ∙ sym all ∙ sym (level_long table level)) (λ k h.
    let row : k < length entries = omega (arith, h, long) in
    let number : k < length numbers = omega (arith, row, all) in
    get_or-map (λ entry. slice_index entry.coords mode) entries k no_entry 0 row
    ∙ ap (slice_index (get_or entries k no_entry).coords) is
    ∙ sym (level_coord format (get_or entries k no_entry).coords level d within)
    ∙ ap (λ n. slice_index (level_coords format entries n) level) (sym (number_at (length entries) k number))
    ∙ sym (level_at table level k number))

-- and the values of entries are those of their rows
pub own_values : (format : List FormatLevel) (entries : List Entry)
    → values_in entries ≡ row_values (table_of format entries (range_with_len 0 (length entries)))
own_values format entries =
    let numbers = range_with_len 0 (length entries) in
    let table = table_of format entries numbers in
    let all : length numbers ≡ length entries = length-range_with_len 0 (length entries) in
    let long : length (values_in entries) ≡ length entries = length-map entries (λ entry. entry.value) in
    same_number_lists (values_in entries) (row_values table) (long ∙ sym all ∙ sym (values_long table)) (λ k h.
    let row : k < length entries = omega (arith, h, long) in
    let number : k < length numbers = omega (arith, row, all) in
    get_or-map (λ entry. entry.value) entries k no_entry 0 row
    ∙ ap (λ n. (get_or entries n no_entry).value) (sym (number_at (length entries) k number))
    ∙ sym (value_at table k number))
