-- What follows from the definition of entries as columns.
use Rattle.std.specs.Prelude.{◌≡◌, ℕ, zero, suc, ◌+◌, ◌<◌, ◌≤◌, List, [], ◌∷◌, ◌++◌, length, take, refl}
use Rattle.std.specs.Prelude.{slice_index, slice_index_or}
use Rattle.std.proofs.Common.{arith, ap, subst, sym, ◌∙◌, inl, inr}
use Rattle.std.proofs.lemmas.List.{length-take-le, get_or-take, take_more, map-append}
use Rattle.std.proofs.lemmas.List.{same_lists, length-map}
use Rattle.std.proofs.lemmas.List.{get_or-set_same, get_or-set_other, get_or-map}
use Rattle.std.proofs.lemmas.Bool.{cases_eq}
use Rattle.std.proofs.lemmas.Grind.{same_number_lists}
use Rattle.std.proofs.Math.ListN.{set, length-set}
use Rattle.tensor_map.specs.Entries.{Entry, column_in, values_in}
use Rattle.tensor_map.specs.Columns.{row_of, rows_from, rows_of, AreLong, HaveAt, KeepsBelow}

module _ {X : Type 0} (numbers : X → List ℕ) where
  -- there are as many entries as values
  pub length_rows : (columns : List X) (place : ℕ) (values : List ℕ) → length (rows_from numbers columns place values) ≡ length values
  length_rows columns place [] = refl
  length_rows columns place (value ∷ values) = ap suc (length_rows columns (suc place) values)

  -- the values of the entries
  pub values_are : (columns : List X) (place : ℕ) (values : List ℕ) → values_in (rows_from numbers columns place values) ≡ values
  values_are columns place [] = refl
  values_are columns place (value ∷ values) = ap (λ vs. value ∷ vs) (values_are columns (suc place) values)

  -- the entry at a place
  pub row_at : (columns : List X) (place : ℕ) (values : List ℕ) (k : ℕ) (d : Entry) → k < length values
      → slice_index_or (rows_from numbers columns place values) k d
      ≡ record { coords = row_of numbers columns (k + place); value = slice_index values k }
  row_at columns place [] k d h = absurd (omega arith)
  row_at columns place (value ∷ values) zero d h =
      ap (λ at. record { coords = row_of numbers columns at; value = value }) (omega arith)
  row_at columns place (value ∷ values) (suc k) d h =
      row_at columns (suc place) values k d (omega arith)
      ∙ ap (λ at. record { coords = row_of numbers columns at; value = slice_index values k }) (omega arith)

  -- columns that have the same numbers at a place
  pub row_same : (old new : List X) (place : ℕ) → length new ≡ length old
      → ((mode : ℕ) (d : X) → mode < length old
      → slice_index (numbers (slice_index_or new mode d)) place ≡ slice_index (numbers (slice_index_or old mode d)) place)
      → row_of numbers new place ≡ row_of numbers old place
  row_same [] [] place long same = refl
  row_same [] (x ∷ new) place long same = absurd (omega arith)
  row_same (x ∷ old) [] place long same = absurd (omega arith)
  row_same (x ∷ old) (y ∷ new) place long same =
      let first : slice_index (numbers y) place ≡ slice_index (numbers x) place = same 0 x (omega arith) in
      let rest : row_of numbers new place ≡ row_of numbers old place =
      row_same old new place (omega arith) (λ mode d h. same (suc mode) d (omega arith)) in
      λ i. first i ∷ rest i

  -- columns that have these coordinates at a place
  pub row_is : (columns : List X) (coords : List ℕ) (place : ℕ) → length coords ≡ length columns
      → ((mode : ℕ) (d : X) → mode < length columns → slice_index (numbers (slice_index_or columns mode d)) place ≡ slice_index coords mode)
      → row_of numbers columns place ≡ coords
  row_is [] [] place long is = refl
  row_is [] (c ∷ coords) place long is = absurd (omega arith)
  row_is (x ∷ columns) [] place long is = absurd (omega arith)
  row_is (x ∷ columns) (c ∷ coords) place long is =
      let first : slice_index (numbers x) place ≡ c = is 0 x (omega arith) in
      let rest : row_of numbers columns place ≡ coords =
      row_is columns coords place (omega arith) (λ mode d h. is (suc mode) d (omega arith)) in
      λ i. first i ∷ rest i

  -- columns that are the same at the places of these values
  pub rows_same : (old new : List X) (place : ℕ) (values : List ℕ)
      → ((k : ℕ) → k < length values → row_of numbers new (k + place) ≡ row_of numbers old (k + place))
      → rows_from numbers new place values ≡ rows_from numbers old place values
  rows_same old new place [] same = refl
  rows_same old new place (value ∷ values) same =
      let first : row_of numbers new place ≡ row_of numbers old place =
      subst (λ at. row_of numbers new at ≡ row_of numbers old at) (omega arith) (same 0 (omega arith)) in
      let rest : rows_from numbers new (suc place) values ≡ rows_from numbers old (suc place) values =
      rows_same old new (suc place) values (λ k h. subst (λ at. row_of numbers new at ≡ row_of numbers old at)
      (omega arith) (same (suc k) (omega arith))) in
      λ i. record { coords = first i; value = value } ∷ rest i

  -- one more value
  pub rows_more : (columns : List X) (place : ℕ) (values : List ℕ) (value : ℕ)
      → rows_from numbers columns place (values ++ value ∷ [])
      ≡ rows_from numbers columns place values ++ record { coords = row_of numbers columns (length values + place); value = value } ∷ []
  rows_more columns place [] value = ap (λ at. record { coords = row_of numbers columns at; value = value } ∷ []) (omega arith)
  rows_more columns place (first ∷ values) value =
      let entry : Entry = record { coords = row_of numbers columns place; value = first } in
      ap (λ es. entry ∷ es) (rows_more columns (suc place) values value
      ∙ ap (λ at. rows_from numbers columns (suc place) values ++ record { coords = row_of numbers columns at; value = value } ∷ [])
      (omega arith))

  -- columns that were kept
  pub rows_kept : (old new : List X) (values : List ℕ) → length new ≡ length old
      → ((mode : ℕ) (d : X) → mode < length old
      → KeepsBelow (length values) (numbers (slice_index_or old mode d)) (numbers (slice_index_or new mode d)))
      → rows_of numbers new values ≡ rows_of numbers old values
  rows_kept old new values long kept = rows_same old new 0 values (λ k h. row_same old new (k + 0) long
      (λ mode d m. (kept mode d m).same (k + 0) (omega arith)))

  -- the entry at a place, told by the place alone
  pub entry_at : (columns : List X) (values : List ℕ) (k : ℕ) (d : Entry) → k < length values
      → slice_index_or (rows_of numbers columns values) k d ≡ record { coords = row_of numbers columns k; value = slice_index values k }
  entry_at columns values k d h = row_at columns 0 values k d h
      ∙ ap (λ at. record { coords = row_of numbers columns at; value = slice_index values k }) (omega arith)

  -- it has a coordinate of each column
  pub row_long : (columns : List X) (values : List ℕ) (k : ℕ) (d : Entry) → k < length values
      → length (slice_index_or (rows_of numbers columns values) k d).coords ≡ length columns
  row_long columns values k d h = ap (λ (entry : Entry). length entry.coords) (entry_at columns values k d h) ∙ length-map _ _

  -- the first numbers of a column are the coordinates in its mode
  pub column_is : (columns : List X) (values : List ℕ) (mode : ℕ) (d : X) → mode < length columns
      → length values ≤ length (numbers (slice_index_or columns mode d))
      → take (length values) (numbers (slice_index_or columns mode d)) ≡ column_in (rows_of numbers columns values) mode
  column_is columns values mode d within long =
      let column = numbers (slice_index_or columns mode d) in
      let rows = rows_of numbers columns values in
      let many : length (take (length values) column) ≡ length values = length-take-le (length values) column long in
      let none : Entry = record { coords = []; value = 0 } in
      same_number_lists (take (length values) column) (column_in rows mode)
      (many ∙ sym (length-map rows (λ entry. slice_index entry.coords mode) ∙ length_rows columns 0 values)) (λ k h.
      let there : k < length values = omega (arith, many, h) in
      let row : k < length rows = omega (arith, there, length_rows columns 0 values) in
      get_or-take (length values) column k 0 there
      ∙ sym (get_or-map (λ c. slice_index (numbers c) k) columns mode d 0 within)
      ∙ sym (ap (λ entry. slice_index entry.coords mode) (entry_at columns values k none there))
      ∙ sym (get_or-map (λ entry. slice_index entry.coords mode) rows k none 0 row))

  -- columns to which an entry was appended
  pub rows_pushed : (old new : List X) (values coords : List ℕ) (value more : ℕ) → length new ≡ length old → length coords ≡ length old
      → ((mode : ℕ) (d : X) → mode < length old
      → KeepsBelow (length values) (numbers (slice_index_or old mode d)) (numbers (slice_index_or new mode d)))
      → HaveAt numbers new (length values) coords more
      → rows_of numbers new (values ++ value ∷ []) ≡ rows_of numbers old values ++ record { coords = coords; value = value } ∷ []
  rows_pushed old new values coords value more long as_many kept put =
      let before : rows_of numbers new values ≡ rows_of numbers old values = rows_kept old new values long kept in
      let row : row_of numbers new (length values + 0) ≡ coords =
      row_is new coords (length values + 0) (omega arith) (λ mode d h.
      subst (λ at. slice_index (numbers (slice_index_or new mode d)) at ≡ slice_index coords mode) (omega arith) (put.at mode d h)) in
      rows_more new 0 values value ∙ (λ i. before i ++ record { coords = row i; value = value } ∷ [])

  -- the coordinates at a place, one more column at a time
  pub row_more : (columns : List X) (place mode : ℕ) (d : X) → mode < length columns
      → row_of numbers (take (mode + 1) columns) place
      ≡ row_of numbers (take mode columns) place ++ slice_index (numbers (slice_index_or columns mode d)) place ∷ []
  row_more columns place mode d h = ap (λ cs. row_of numbers cs place) (take_more columns mode d h)
      ∙ map-append (λ column. slice_index (numbers column) place) (take mode columns) (slice_index_or columns mode d ∷ [])

  -- fewer values
  rows_taken_from : (columns : List X) (place count : ℕ) (values : List ℕ)
      → rows_from numbers columns place (take count values) ≡ take count (rows_from numbers columns place values)
  rows_taken_from columns place zero values = refl
  rows_taken_from columns place (suc count) [] = refl
  rows_taken_from columns place (suc count) (value ∷ values) =
      ap (λ es. record { coords = row_of numbers columns place; value = value } ∷ es) (rows_taken_from columns (suc place) count values)

  pub rows_taken : (columns : List X) (count : ℕ) (values : List ℕ)
      → rows_of numbers columns (take count values) ≡ take count (rows_of numbers columns values)
  rows_taken columns count values = rows_taken_from columns 0 count values

  -- an entry that was put over another
  pub rows_overwritten : (old new : List X) (values written : List ℕ) (to from : ℕ) (d : Entry) → length new ≡ length old
      → AreLong numbers old (length values) → to < length values → from < length values
      → ((mode : ℕ) (d : X) → mode < length old → numbers (slice_index_or new mode d)
      ≡ set (numbers (slice_index_or old mode d)) to (slice_index (numbers (slice_index_or old mode d)) from))
      → written ≡ set values to (slice_index values from)
      → rows_of numbers new written
      ≡ set (rows_of numbers old values) to (slice_index_or (rows_of numbers old values) from d)
  rows_overwritten old new values written to from d long are_long to_in from_in copied is =
      let as_many : length written ≡ length values = ap length is ∙ length-set values to (slice_index values from) in
      let before = rows_of numbers old values in
      let moved : Entry = slice_index_or before from d in
      let there : moved ≡ record { coords = row_of numbers old from; value = slice_index values from } =
      entry_at old values from d from_in in
      same_lists _ _
      (length_rows new 0 written ∙ as_many ∙ sym (length-set before to moved ∙ length_rows old 0 values))
      (λ k e h.
      let k_new : k < length written = omega (arith, length_rows new 0 written) in
      let k_old : k < length values = omega arith in
      let to_before : to < length before = omega (arith, length_rows old 0 values) in
      let now : slice_index_or (rows_of numbers new written) k e ≡ record { coords = row_of numbers new k; value = slice_index written k } =
      entry_at new written k e k_new in
      elim (cases_eq k to) [
        | inl same ↦ (
            let row : row_of numbers new k ≡ row_of numbers old from = row_is new (row_of numbers old from) k
            (length-map old (λ column. slice_index (numbers column) from) ∙ sym long) (λ mode d m.
            let m' : mode < length old = omega arith in
            let fits : to < length (numbers (slice_index_or old mode d)) = omega (arith, are_long mode d m') in
            ap (λ xs. slice_index xs k) (copied mode d m')
            ∙ ap (slice_index (set (numbers (slice_index_or old mode d)) to (slice_index (numbers (slice_index_or old mode d)) from))) same
            ∙ get_or-set_same (numbers (slice_index_or old mode d)) to (slice_index (numbers (slice_index_or old mode d)) from) 0 fits
            ∙ sym (get_or-map (λ column. slice_index (numbers column) from) old mode d 0 m')) in
            let value : slice_index written k ≡ slice_index values from = ap (λ xs. slice_index xs k) is
            ∙ ap (slice_index (set values to (slice_index values from))) same
            ∙ get_or-set_same values to (slice_index values from) 0 to_in in
            now ∙ (λ i. record { coords = row i; value = value i }) ∙ sym there
            ∙ sym (ap (λ n. slice_index_or (set before to moved) n e) same ∙ get_or-set_same before to moved e to_before))
        | inr apart ↦ (
            let row : row_of numbers new k ≡ row_of numbers old k = row_same old new k long (λ mode d m.
            ap (λ xs. slice_index xs k) (copied mode d m)
            ∙ get_or-set_other (numbers (slice_index_or old mode d)) to k
            (slice_index (numbers (slice_index_or old mode d)) from) 0 apart) in
            let value : slice_index written k ≡ slice_index values k = ap (λ xs. slice_index xs k) is
            ∙ get_or-set_other values to k (slice_index values from) 0 apart in
            now ∙ (λ i. record { coords = row i; value = value i }) ∙ sym (entry_at old values k e k_old)
            ∙ sym (get_or-set_other before to k moved e apart))
      ])

-- two coordinates are those of a list of two
pub two_is : (coords : List ℕ) → length coords ≡ 2 → slice_index coords 0 ∷ slice_index coords 1 ∷ [] ≡ coords
two_is [] h = absurd (omega arith)
two_is (x ∷ []) h = absurd (omega arith)
two_is (x ∷ y ∷ []) h = refl
two_is (x ∷ y ∷ z ∷ others) h = absurd (omega arith)
