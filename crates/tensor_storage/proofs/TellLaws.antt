-- A packed tensor tells its entries.
use Rattle.std.specs.Prelude.{◌≡◌, ◌⊎◌, ℕ, suc, ◌+◌, ◌<◌, List, [], ◌∷◌, length, drop, All, slice_index, IsPermutation, refl}
use Rattle.std.specs.List.{range_with_len}
use Rattle.std.proofs.Common.{◌∙◌, sym, ap, subst, arith, inl, inr, get_or, zero-add, drop-cons, drop_of_length-le}
use Rattle.std.proofs.lemmas.Grind.{get_or_default_zero}
use Rattle.std.proofs.lemmas.List.{length-map}
use Rattle.std.proofs.lemmas.List.FromFn.{length-range_with_len, get_or-range_with_len}
use Rattle.std.proofs.lemmas.List.Sorted.{IsPermutation-sym, All-permutation}
use Rattle.numbers.specs.Arithmetic.{Arithmetic, Laws}
use Rattle.level_core.specs.declared.letter.Letter.{Letter}
use Rattle.level_core.specs.Entries.{one}
use Rattle.level_rows.specs.Stacks.{Path}
use Rattle.format_spec.specs.declared.format.FormatLevel.{FormatLevel}
use Rattle.format_spec.specs.Formats.{letters_of, IsFormat}
use Rattle.tensor_map.specs.Entries.{Entry, IsEntry, Listed, value_at, StrictlyIncreasing}
use Rattle.tensor_map.specs.Laws.{same, other}
use Rattle.tensor_map.proofs.Lemmas.{tested, listed_at, value_unlisted, value_of_entry}
use Rattle.tensor_storage.specs.Arranged.{no_entry, level_coords, table_of, AreInside, IsPackedFrom}
use Rattle.tensor_storage.specs.Stands.{row_from, MakesPath}
use Rattle.tensor_storage.specs.Storages.{Storage, EndsAt, in_level_order}
use Rattle.tensor_storage.specs.Levels.{meaning}
use Rattle.tensor_storage.specs.Tables.{Table}
use Rattle.tensor_storage.specs.Told.{TellsEntries, PackedTellEntries}
use Rattle.tensor_storage.proofs.Arranging.{coords_back, rows_below, number_below}

-- the coordinates of a row at the levels from one on
row_is : (coords : ℕ → ℕ → ℕ) (i : ℕ) (xs : List ℕ) → ((d : ℕ) → coords d i ≡ slice_index xs d) → (letters : List Letter) (d : ℕ)
    → length letters + d ≡ length xs → row_from coords i d letters ≡ drop d xs
row_is coords i xs are [] d long = sym (drop_of_length-le xs {i = d} (omega (arith, long)))
row_is coords i xs are (letter ∷ letters) d long =
    ap (λ x. x ∷ row_from coords i (suc d) letters) (are d)
    ∙ ap (λ ys. slice_index xs d ∷ ys) (row_is coords i xs are letters (suc d) (omega (arith, long)))
    ∙ sym (drop-cons xs d 0 (omega (arith, long)))

-- a row makes a path
own_made : (table : Table) (i : ℕ) → i < table.count → (letters : List Letter) (sizes : List ℕ) (d : ℕ) → length letters ≡ length sizes
    → ((e : ℕ) → e < length sizes → table.coords (d + e) i < slice_index sizes e) → (begins : ℕ → Type 0) → begins i
    → MakesPath table d letters sizes begins (row_from table.coords i d letters)
own_made table i h [] sizes d long below begins b = tt
own_made table i h (letter ∷ letters) [] d long below begins b = absurd (omega (arith, long))
own_made table i h (letter ∷ letters) (size ∷ sizes) d long below begins b =
    let here : d + 0 ≡ d = omega arith in
    let first = subst (λ n. table.coords n i < size) here (below 0 (omega arith)) in (
      λ full. first,
      λ sparse. (i, h, b, refl),
      own_made table i h letters sizes (suc d) (omega (arith, long))
          (λ e less. let equal : d + suc e ≡ suc d + e = omega arith in
          subst (λ n. table.coords n i < slice_index sizes e) equal (below (suc e) (omega (arith, less)))) (λ j. begins j
          × (table.coords d j ≡ table.coords d i)) (b, refl),
    )

-- where an entry stands in the row of entries
record Stood (entries : List Entry) (coords : List ℕ) : Type 0 where
  at : ℕ
  within : at < length entries
  is : (get_or entries at no_entry).coords ≡ coords

stood : (entries : List Entry) (coords : List ℕ) → Listed entries coords → Stood entries coords
stood [] coords l = absurd l
stood (e ∷ es) coords (inl here) = record { at = 0; within = omega arith; is = here }
stood (e ∷ es) coords (inr there) = let k = stood es coords there in let within = k.within in
    record { at = suc k.at; within = omega (arith, within); is = k.is }

listed_or_not : (entries : List Entry) (coords : List ℕ) → Listed entries coords ⊎ (Listed entries coords → ⊥)
listed_or_not [] coords = inr (λ l. l)
listed_or_not (e ∷ es) coords = by_rest (listed_or_not es coords)
  where
    by_rest : Listed es coords ⊎ (Listed es coords → ⊥) → Listed (e ∷ es) coords ⊎ (Listed (e ∷ es) coords → ⊥)
    by_rest (inl there) = inl (inr there)
    by_rest (inr none) = elim (tested e.coords coords) [
      | same is t ↦ inl (inl is)
      | other isnt t ↦ inr (λ l. elim l [ inl here ↦ isnt here | inr there ↦ none there ])
    ]

-- the row of an entry
row_for : (count : ℕ) (numbers : List ℕ) → IsPermutation (range_with_len 0 count) numbers → (k : ℕ) → k < count
    → (i : ℕ) × (i < length numbers) × (slice_index numbers i ≡ k)
row_for count numbers moved k h =
    let all = All-permutation (λ x. (i : ℕ) × (i < length numbers) × (slice_index numbers i ≡ x)) numbers (range_with_len 0 count)
    (IsPermutation-sym (range_with_len 0 count) numbers moved) (λ j d less. (j, less, sym (get_or_default_zero numbers j d less))) in
    let long = length-range_with_len 0 count in
    let found = all k 0 (omega (arith, h, long)) in
    (found.0, found.1, found.2 ∙ get_or-range_with_len 0 count k 0 h ∙ zero-add k)

module _ (a : Arithmetic) (laws : Laws a) (format : List FormatLevel) (ranges : List ℕ) (entries : List Entry) (storage : Storage)
    (is : IsFormat format) (long : length ranges ≡ length format) (each : All (IsEntry (length format)) entries)
    (up : StrictlyIncreasing entries) (inside : AreInside ranges entries) (p : IsPackedFrom a.zero format ranges entries storage)
    (coords : List ℕ) (coords_long : length coords ≡ length format) where
  letters_long : length (letters_of format) ≡ length format
  letters_long = length-map format (λ level. level.letter)

  level_long : (xs : List ℕ) → length (in_level_order format xs) ≡ length format
  level_long xs = length-map format (λ level. slice_index xs level.mode)

  table_row : (i : ℕ) → row_from (table_of format entries p.numbers).coords i 0 (letters_of format)
      ≡ level_coords format entries (slice_index p.numbers i)
  table_row i = row_is (table_of format entries p.numbers).coords i (level_coords format entries (slice_index p.numbers i)) (λ d. refl)
      (letters_of format) 0 (let n = level_long (get_or entries (slice_index p.numbers i) no_entry).coords in
      omega (arith, letters_long, n))

  -- the path of coordinates by the format
  path_by : (pos : ℕ) → EndsAt storage coords pos → Path meaning storage.levels (one 0) (in_level_order format coords) pos
  path_by pos path = subst (λ f. Path meaning storage.levels (one 0) (in_level_order f coords) pos) p.packed.format_is path

  -- the row of an entry that has the coordinates
  record HasRow (l : Stood entries coords) : Type 0 where
    row : ℕ
    within : row < length p.numbers
    number : slice_index p.numbers row ≡ l.at
    row_same : row_from (table_of format entries p.numbers).coords row 0 (letters_of format) ≡ in_level_order format coords

  has_row : (l : Stood entries coords) → HasRow l
  has_row l =
      let r = row_for (length entries) p.numbers p.arranged.all l.at l.within in
      record {
        row = r.0;
        within = r.1;
        number = r.2;
        row_same = table_row r.0 ∙ ap (level_coords format entries) r.2
            ∙ ap (in_level_order format) l.is;
      }

  pub named : Listed entries coords → (pos : ℕ) × EndsAt storage coords pos
  named l =
      let s = stood entries coords l in
      let r = has_row s in
      let below = rows_below format entries p.numbers ranges is long inside p.arranged in
      let made = own_made (table_of format entries p.numbers) r.row r.within (letters_of format) (in_level_order format ranges) 0
      (letters_long ∙ sym (level_long ranges))
      (λ e less. let equal : 0 + e ≡ e = omega arith in
      subst (λ n. (table_of format entries p.numbers).coords n r.row < slice_index (in_level_order format ranges) e) (sym equal)
      (below e r.row less r.within)) (λ i. i < length p.numbers) r.within in
      let k = p.packed.stands.there (row_from (table_of format entries p.numbers).coords r.row 0 (letters_of format)) made in (
        k.0,
        subst (λ f. Path meaning storage.levels (one 0) (in_level_order f coords) k.0) (sym p.packed.format_is)
            (subst (λ xs. Path meaning storage.levels (one 0) xs k.0) r.row_same k.1),
      )

  pub stored : (pos : ℕ) → EndsAt storage coords pos → slice_index storage.values pos ≡ value_at a entries coords
  stored pos path = by_listed (listed_or_not entries coords)
    where
      by_listed : Listed entries coords ⊎ (Listed entries coords → ⊥) → slice_index storage.values pos ≡ value_at a entries coords
      by_listed (inl l) =
          let s = stood entries coords l in
          let r = has_row s in
          p.packed.stands.stored r.row pos r.within
          (subst (λ xs. Path meaning storage.levels (one 0) xs pos) (sym r.row_same) (path_by pos path))
          ∙ ap (λ k. (get_or entries k no_entry).value) r.number
          ∙ sym (value_of_entry a laws entries s.at no_entry up s.within (each s.at no_entry s.within).word) ∙ ap (value_at a entries) s.is
      by_listed (inr none) =
          p.packed.stands.unnamed (in_level_order format coords) pos (path_by pos path) (λ i h equal.
          let below = number_below format entries p.numbers is each up p.arranged.all i 0 h in
          let back = coords_back format (get_or entries (slice_index p.numbers i) no_entry).coords coords is
          (each (slice_index p.numbers i) no_entry below).long coords_long (sym (table_row i) ∙ equal) in
          none (subst (Listed entries) back (listed_at entries (slice_index p.numbers i) no_entry below)))
          ∙ sym (value_unlisted a laws coords entries none)

  pub tells : TellsEntries a entries storage coords
  tells = record {
    stored = stored;
    absent = λ no_path. value_unlisted a laws coords entries (λ l. let k = named l in no_path k.0 k.1);
    named = named;
  }

pub packed_tell_entries : (a : Arithmetic) → Laws a → PackedTellEntries a
packed_tell_entries a laws format ranges entries storage is long each up inside p coords coords_long =
    tells a laws format ranges entries storage is long each up inside p coords coords_long
