-- Levels that are packed stand for their table.
use Rattle.std.specs.Prelude.{◌≡◌, ◌≢◌, ℕ, zero, suc, ◌<◌, false, Option, Some, None, List, [], ◌∷◌, ◌++◌, length, map, take, drop}
use Rattle.std.specs.Prelude.{replicate, slice_index, refl}
use Rattle.std.proofs.Common.{◌∙◌, sym, ap, subst, arith, drop_of_length-le, take_all}
use Rattle.std.proofs.lemmas.List.{append-nil, length-map, length-replicate}
use Rattle.level_core.specs.declared.span.Span.{Span}
use Rattle.level_core.specs.Entries.{IsIn, coord_at, one}
use Rattle.level_core.specs.Meaning.{Meaning}
use Rattle.level_core.specs.Laws.{Laws}
use Rattle.level_rows.specs.Stacks.{Path, IsPath, Column, Stacked, AreNested, TellsPaths, coords_of, last_place, last_positions}
use Rattle.level_rows.specs.Tables.{Increase, AreColumnsOf}
use Rattle.level_rows.specs.Values.{StoresValues}
use Rattle.level_rows.specs.Growing.{Growing}
use Rattle.level_rows.proofs.Entries.{coord_from}
use Rattle.level_rows.proofs.Growing.{levels_grow}
use Rattle.level_rows.proofs.ValueLaws.{all_stored}
use Rattle.format_spec.specs.declared.format.FormatLevel.{FormatLevel}
use Rattle.format_spec.specs.Formats.{letters_of, Chained, IsFormat}
use Rattle.tensor_storage.specs.Built.{counts_of, IsStoredAt, GoesOver}
use Rattle.tensor_storage.specs.Counts.{positions_from, last_of, AreFew}
use Rattle.tensor_storage.specs.Packed.{ArePacked}
use Rattle.tensor_storage.specs.Stands.{row_from, MakesPath, Stands, IsPacked}
use Rattle.tensor_storage.specs.Levels.{StorageLevel, meaning}
use Rattle.tensor_storage.specs.Laws.{laws}
use Rattle.tensor_storage.specs.Storages.{IsOpen, IsStorage, storage_of, in_level_order}
use Rattle.tensor_storage.specs.Tables.{Table, row_values}
use Rattle.tensor_storage.proofs.PackSteps.{all_same, last_is}
use Rattle.tensor_storage.proofs.Tables.{values_long, value_at}

module _ {L : Type 0} (means : Meaning L) (table : Table) where
  path_made : (ls : List L) (columns : List Column) (d : ℕ) (parent : ℕ → ℕ) (parents : ℕ)
      → Stacked means table.count ls columns parent parents → AreColumnsOf means table.coords table.count ls columns d
      → (b c : ℕ → Type 0) → ((i : ℕ) → i < table.count → b i → c i) → (xs : List ℕ) → IsPath means table.count ls columns b xs
      → MakesPath table d (map means.kind ls) (map means.size ls) c xs
  path_made [] [] d parent parents st are b c f [] p = tt
  path_made [] [] d parent parents st are b c f (x ∷ xs) p = absurd p
  path_made [] (column ∷ columns) d parent parents st are b c f xs p = absurd st
  path_made (l ∷ ls) [] d parent parents st are b c f xs p = absurd st
  path_made (l ∷ ls) (column ∷ columns) d parent parents st are b c f [] p = absurd p
  path_made (l ∷ ls) (column ∷ columns) d parent parents st are b c f (x ∷ xs) p = (
    p.0,
    (λ full. let k = p.1 full in (k.0, k.1, f k.0 k.1 k.2, sym (are.0.coord k.0 k.1) ∙ k.3)),
    path_made ls columns (suc d) column.place column.positions st.1 are.1 (λ i. b i × (column.coord i ≡ x))
        (λ i. c i × (table.coords d i ≡ x)) (λ i h k. (f i h k.0, sym (are.0.coord i h) ∙ k.1)) xs p.2,
  )

  path_there : (ls : List L) (columns : List Column) (d : ℕ) (parent : ℕ → ℕ) (parents : ℕ)
      → Stacked means table.count ls columns parent parents → AreColumnsOf means table.coords table.count ls columns d
      → (b c : ℕ → Type 0) → ((i : ℕ) → i < table.count → c i → b i) → (xs : List ℕ)
      → MakesPath table d (map means.kind ls) (map means.size ls) c xs → IsPath means table.count ls columns b xs
  path_there [] [] d parent parents st are b c f [] p = tt
  path_there [] [] d parent parents st are b c f (x ∷ xs) p = absurd p
  path_there [] (column ∷ columns) d parent parents st are b c f xs p = absurd st
  path_there (l ∷ ls) [] d parent parents st are b c f xs p = absurd st
  path_there (l ∷ ls) (column ∷ columns) d parent parents st are b c f [] p = absurd p
  path_there (l ∷ ls) (column ∷ columns) d parent parents st are b c f (x ∷ xs) p = (
    p.0,
    (λ full. let k = p.1 full in (k.0, k.1, f k.0 k.1 k.2, are.0.coord k.0 k.1 ∙ k.3)),
    path_there ls columns (suc d) column.place column.positions st.1 are.1 (λ i. b i × (column.coord i ≡ x))
        (λ i. c i × (table.coords d i ≡ x)) (λ i h k. (f i h k.0, are.0.coord i h ∙ k.1)) xs p.2,
  )

  pub rows_same : (ls : List L) (columns : List Column) (d : ℕ) (parent : ℕ → ℕ) (parents : ℕ)
      → Stacked means table.count ls columns parent parents → AreColumnsOf means table.coords table.count ls columns d
      → (i : ℕ) → i < table.count → coords_of columns i ≡ row_from table.coords i d (map means.kind ls)
  rows_same [] [] d parent parents st are i h = refl
  rows_same [] (column ∷ columns) d parent parents st are i h = absurd st
  rows_same (l ∷ ls) [] d parent parents st are i h = absurd st
  rows_same (l ∷ ls) (column ∷ columns) d parent parents st are i h =
      ap (λ x. x ∷ coords_of columns i) (are.0.coord i h)
      ∙ ap (λ xs. table.coords d i ∷ xs) (rows_same ls columns (suc d) column.place column.positions st.1 are.1 i h)

  open_from : (ls : List L) (columns : List Column) (parents : ℕ) (span : Span) → AreNested means ls columns parents span
      → IsOpen means ls (last_positions columns parents) span
  open_from [] [] parents span n = n
  open_from [] (column ∷ columns) parents span n = absurd n
  open_from (l ∷ ls) [] parents span n = absurd n
  open_from (l ∷ ls) (column ∷ columns) parents span n = (n.0.0, λ e s. open_from ls columns column.positions e.child (n.1 e s))

-- where a row is at the level that stands below k others
abbrev place_at : List Column → ℕ → ℕ → ℕ
place_at [] k i = 0
place_at (column ∷ columns) zero i = column.place i
place_at (column ∷ columns) (suc k) i = place_at columns k i

some_of : (o : Option ℕ) → o ≢ None → (x : ℕ) × (o ≡ Some x)
some_of None h = absurd (h refl)
some_of (Some x) h = (x, refl)

-- a row of which a coordinate is stored
record StoredRow (count : ℕ) (columns : List Column) (k pos : ℕ) : Type 0 where
  row : ℕ
  within : row < count
  deep : k < length columns
  at : place_at columns k row ≡ pos

module _ {L : Type 0} (means : Meaning L) (laws : Laws means) (count : ℕ) where
  -- a row's path goes over its places
  goes_over : (ls : List L) (columns : List Column) (parent : ℕ → ℕ) (parents : ℕ) (s : Span)
      → Stacked means count ls columns parent parents → AreNested means ls columns parents s → (i : ℕ) → i < count → IsIn (parent i) s
      → (k : ℕ) → k < length columns → GoesOver means ls s (coords_of columns i) k (place_at columns k i)
  goes_over [] [] parent parents s st n i h at k deep = absurd (omega (arith, deep))
  goes_over [] (column ∷ columns) parent parents s st n i h at k deep = absurd st
  goes_over (l ∷ ls) [] parent parents s st n i h at k deep = absurd st
  goes_over (l ∷ ls) (column ∷ columns) parent parents s st n i h at zero deep =
      let e = coord_from (column.place i) (column.coord i) (means.entries l s) (st.0.stands.has s i n.0 h at) in
      (e.entry, e.stands, e.coord, e.at)
  goes_over (l ∷ ls) (column ∷ columns) parent parents s st n i h at (suc k) deep =
      let e = coord_from (column.place i) (column.coord i) (means.entries l s) (st.0.stands.has s i n.0 h at) in (
        e.entry,
        e.stands,
        e.coord,
        goes_over ls columns column.place column.positions e.entry.child st.1 (n.1 e.entry e.stands) i h e.at k (omega (arith, deep)),
      )

  stored_row : (ls : List L) (columns : List Column) (parent : ℕ → ℕ) (parents : ℕ) → Stacked means count ls columns parent parents
      → (k pos : ℕ) → IsStoredAt means parents ls (counts_of columns) k pos → StoredRow count columns k pos
  stored_row [] columns parent parents st k pos s = absurd s
  stored_row (l ∷ ls) [] parent parents st k pos s = absurd st
  stored_row (l ∷ ls) (column ∷ columns) parent parents st zero pos s =
      let q = s.1 in
      let less = q.1 in
      let x = some_of (coord_at (means.entries l (one q.0)) pos) q.3 in
      let r = st.0.stands.only s.0 (one q.0) pos x.0 (laws.parents l parents q.0 st.0.has_parents less, omega (arith, less)) q.2 x.1 in
      record { row = r.0; within = r.1; deep = omega arith; at = r.2 }
  stored_row (l ∷ ls) (column ∷ columns) parent parents st (suc k) pos s =
      let r = stored_row ls columns column.place column.positions st.1 k pos s in
      let deep = r.deep in
      record { row = r.row; within = r.within; deep = omega (arith, deep); at = r.at }

all_there : {A : Type 0} (xs ys zs : List A) (n : ℕ) → xs ++ drop n zs ≡ zs → length zs ≡ n → xs ≡ zs
all_there xs ys zs n h long = sym (append-nil xs) ∙ ap (λ rest. xs ++ rest) (sym (drop_of_length-le zs {i = n} (omega (arith, long)))) ∙ h

module _ {L : Type 0} (means : Meaning L) (laws : Laws means) (format : List FormatLevel) (sizes : List ℕ) (table : Table)
    (up : Increase table.coords (length format) table.count) (long : length sizes ≡ length format)
    (levels : List L) (ps : List ℕ) (positions : ℕ)
    (p : ArePacked means (letters_of format) sizes table (length format) levels ps positions) where
  as_many : length (letters_of format) ≡ length format
  as_many = length-map format (λ level. level.letter)

  pub kinds_are : map means.kind levels ≡ letters_of format
  kinds_are = all_there (map means.kind levels) [] (letters_of format) (length format) p.kinds as_many

  pub sizes_are : map means.size levels ≡ sizes
  sizes_are = all_there (map means.size levels) [] sizes (length format) p.ranges long

  no_groups : p.groups ≡ false
  no_groups = subst (Chained p.groups) (drop_of_length-le (letters_of format) {i = length format} (omega (arith, as_many))) p.chained

  grown : Growing means table.coords table.count (length format) p.above false p.ordered levels p.columns (slice_index ps) positions
  grown =
      subst (λ b. Growing means table.coords table.count (length format) p.above b p.ordered levels p.columns (slice_index ps) positions)
      no_groups p.growing

  tells : TellsPaths means table.count levels p.columns
  tells = (levels_grow means laws).all table.coords table.count (length format) p.above p.ordered levels p.columns (slice_index ps)
      positions up grown

  -- no two rows have one place
  pub places_apart : (i j : ℕ) → i < j → j < table.count → slice_index ps i ≢ slice_index ps j
  places_apart = (levels_grow means laws).apart table.coords table.count (length format) p.above p.ordered levels p.columns (slice_index ps)
      positions up grown

  pub places_within : (i : ℕ) → i < table.count → slice_index ps i < positions
  places_within = p.growing.share.within

  pub levels_open : IsOpen means levels positions (one 0)
  levels_open = subst (λ n. IsOpen means levels n (one 0)) p.growing.parents_are
      (open_from means table levels p.columns 1 (one 0) tells.nested)

  row_is : (i : ℕ) → i < table.count → coords_of p.columns i ≡ row_from table.coords i 0 (letters_of format)
  row_is i h = rows_same means table levels p.columns 0 (λ i. 0) 1 p.growing.stacked p.growing.columns_are i h
      ∙ ap (row_from table.coords i 0) kinds_are

  place_of : (i : ℕ) → last_place p.columns (λ i. 0) i ≡ slice_index ps i
  place_of i = ap (λ f. f i) p.growing.place_is

  counts_are : counts_of p.columns ≡ positions_from table 0 1 (letters_of format) sizes
  counts_are = sym (append-nil (counts_of p.columns))
      ∙ ap (λ ls. counts_of p.columns ++ positions_from table (length format) positions ls (drop (length format) sizes))
      (sym (drop_of_length-le (letters_of format) {i = length format} (omega (arith, as_many))))
      ∙ p.counts

  pub few_are : AreFew (positions_from table 0 1 (letters_of format) sizes)
  few_are = subst AreFew counts_are p.few

  last_count : positions ≡ last_of 1 (positions_from table 0 1 (letters_of format) sizes)
  last_count = sym p.growing.parents_are ∙ sym (last_is p.columns 1) ∙ ap (last_of 1) counts_are

  own_path : (i : ℕ) → i < table.count → Path means levels (one 0) (row_from table.coords i 0 (letters_of format))
      (last_place p.columns (λ i. 0) i)
  own_path i h = subst (λ xs. Path means levels (one 0) xs (last_place p.columns (λ i. 0) i)) (row_is i h) (tells.own i h)

  -- a coordinate that is stored is on a row's path
  on_path : (k pos : ℕ) → IsStoredAt means 1 levels (positions_from table 0 1 (letters_of format) sizes) k pos
      → (xs : List ℕ) × ((end : ℕ) × Path means levels (one 0) xs end) × GoesOver means levels (one 0) xs k pos
  on_path k pos at =
      let r = stored_row means laws table.count levels p.columns (λ i. 0) 1 p.growing.stacked k pos
      (subst (λ ns. IsStoredAt means 1 levels ns k pos) (sym counts_are) at) in
      let over = goes_over means laws table.count levels p.columns (λ i. 0) 1 (one 0) p.growing.stacked tells.nested r.row r.within
      (omega arith, omega arith) k r.deep in (
        row_from table.coords r.row 0 (letters_of format),
        (last_place p.columns (λ i. 0) r.row, own_path r.row r.within),
        subst (λ q. GoesOver means levels (one 0) (row_from table.coords r.row 0 (letters_of format)) k q) r.at
            (subst (λ xs. GoesOver means levels (one 0) xs k (place_at p.columns k r.row)) (row_is r.row r.within) over),
      )

  path_within : (xs : List ℕ) (pos : ℕ) → Path means levels (one 0) xs pos → pos < positions
  path_within xs pos path = let less = tells.within xs pos path in let same = p.growing.parents_are in omega (arith, less, same)

  -- a row whose path ends where a path does has its coordinates
  row_back : (xs : List ℕ) (pos i : ℕ) → Path means levels (one 0) xs pos → i < table.count
      → Path means levels (one 0) (row_from table.coords i 0 (letters_of format)) pos → row_from table.coords i 0 (letters_of format) ≡ xs
  row_back xs pos i path h own =
      sym (row_is i h) ∙ tells.back xs pos i path h (tells.placed (row_from table.coords i 0 (letters_of format)) pos i own h (row_is i h))

  zero_there : (zero_is : ℕ) (before values : List ℕ) → before ≡ replicate positions zero_is
      → StoresValues table.count (slice_index ps) table.values before values → (pos : ℕ) → pos < positions
      → ((i : ℕ) → i < table.count → Path means levels (one 0) (row_from table.coords i 0 (letters_of format)) pos → ⊥)
      → slice_index values pos ≡ zero_is
  zero_there zero_is before values none s pos h none_ends =
      s.others pos
      (λ i less at. none_ends i less
      (subst (λ q. Path means levels (one 0) (row_from table.coords i 0 (letters_of format)) q) (place_of i ∙ at) (own_path i less)))
      ∙ ap (λ vs. slice_index vs pos) none ∙ all_same positions pos zero_is h

  pub stands : (zero_is : ℕ) (before values : List ℕ) → before ≡ replicate positions zero_is
      → StoresValues table.count (slice_index ps) table.values before values
      → Stands means zero_is (letters_of format) sizes table levels values
  stands zero_is before values none s = record {
    columns = p.columns;
    counted = counts_are;
    built = p.built;
    many = s.long ∙ ap length none ∙ length-replicate positions zero_is ∙ last_count;
    opened = subst (λ n. IsOpen means levels n (one 0)) (sym (s.long ∙ ap length none ∙ length-replicate positions zero_is)) levels_open;
    alone = on_path;
    made = λ xs pos path. subst (λ ls. MakesPath table 0 ls sizes (λ i. i < table.count) xs) kinds_are
        (subst (λ ns. MakesPath table 0 (map means.kind levels) ns (λ i. i < table.count) xs) sizes_are
        (path_made means table levels p.columns 0 (λ i. 0) 1 p.growing.stacked p.growing.columns_are (λ i. i < table.count)
        (λ i. i < table.count) (λ i h k. k) xs (tells.made xs pos path)));
    there =
        λ xs m. tells.there xs (path_there means table levels p.columns 0 (λ i. 0) 1 p.growing.stacked p.growing.columns_are
        (λ i. i < table.count) (λ i. i < table.count) (λ i h k. k) xs
        (subst (λ ls. MakesPath table 0 ls (map means.size levels) (λ i. i < table.count) xs) (sym kinds_are)
        (subst (λ ns. MakesPath table 0 (letters_of format) ns (λ i. i < table.count) xs) (sym sizes_are) m)));
    once = tells.once;
    stored = λ i pos h path.
        let at = sym (place_of i) ∙ tells.placed (row_from table.coords i 0 (letters_of format)) pos i path h (row_is i h) in
        ap (slice_index values) (sym at) ∙ s.stored i h;
    zeros = λ pos h. let all = s.long ∙ ap length none ∙ length-replicate positions zero_is in
        zero_there zero_is before values none s pos (omega (arith, h, all));
    unnamed = λ xs pos path other. zero_there zero_is before values none s pos (path_within xs pos path)
        (λ i h own. other i h (row_back xs pos i path h own));
  }

-- what packed levels and the values that are stored behind them are
pub pack_done : (zero_is : ℕ) (format : List FormatLevel) (ranges : List ℕ) (table : Table) (levels : List StorageLevel) (ps qs : List ℕ)
    (positions : ℕ) (before values kept : List ℕ) → IsFormat format → Increase table.coords (length format) table.count
    → ArePacked meaning (letters_of format) (in_level_order format ranges) table (length format) levels ps positions → qs ≡ ps
    → before ≡ replicate positions zero_is → StoresValues table.count (slice_index qs) table.values before values → kept ≡ values
    → IsPacked zero_is format ranges table (storage_of format levels kept) × IsStorage (storage_of format levels kept)
pack_done zero_is format ranges table levels ps qs positions before values kept is up p at none s same =
    subst (λ vs. IsPacked zero_is format ranges table (storage_of format levels vs) × IsStorage (storage_of format levels vs)) (sym same)
    (packed_is, storage_is)
  where
    packed : ArePacked meaning (letters_of format) (in_level_order format ranges) table (length format) levels qs positions
    packed =
        subst (λ places. ArePacked meaning (letters_of format) (in_level_order format ranges) table (length format) levels places positions)
        (sym at) p

    long : length (in_level_order format ranges) ≡ length format
    long = length-map format (λ level. slice_index ranges level.mode)

    stand : Stands meaning zero_is (letters_of format) (in_level_order format ranges) table levels values
    stand = stands meaning laws format (in_level_order format ranges) table up long levels qs positions packed zero_is before values none s

    packed_is : IsPacked zero_is format ranges table (storage_of format levels values)
    packed_is = record {
      format_is = refl;
      sizes = sizes_are meaning laws format (in_level_order format ranges) table up long levels qs positions packed;
      few = few_are meaning laws format (in_level_order format ranges) table up long levels qs positions packed;
      stands = stand;
    }

    storage_is : IsStorage (storage_of format levels values)
    storage_is =
        record {
          format = is;
          letters = kinds_are meaning laws format (in_level_order format ranges) table up long levels qs positions
              packed;
          opened = stand.opened;
        }

pub distinct_places : (format : List FormatLevel) (ranges : List ℕ) (table : Table) (levels : List StorageLevel) (ps qs : List ℕ)
    (positions : ℕ) → Increase table.coords (length format) table.count
    → ArePacked meaning (letters_of format) (in_level_order format ranges) table (length format) levels ps positions → qs ≡ ps → (i j : ℕ)
    → i < j → j < table.count → slice_index qs i ≢ slice_index qs j
distinct_places format ranges table levels ps qs positions up p at =
    places_apart meaning laws format (in_level_order format ranges) table up (length-map format (λ level. slice_index ranges level.mode))
    levels qs positions
    (subst (λ places. ArePacked meaning (letters_of format) (in_level_order format ranges) table (length format) levels places positions)
    (sym at) p)

-- a vector that was written through a slice
pub written : (n : ℕ) (xs ys : List ℕ) → length xs ≡ length ys → n ≡ length ys → take n (xs ++ drop (length xs) ys) ≡ xs
written n xs ys same all =
    ap (λ rest. take n (xs ++ rest)) (drop_of_length-le ys {i = length xs} (omega (arith, same))) ∙ ap (take n) (append-nil xs)
    ∙ take_all n xs (omega (arith, same, all))

-- the values of all rows are those at their places where each place is its row's number, and there are as many positions as rows
pub copied_stored : (table : Table) (places : List ℕ) (positions zero_is : ℕ) (lent copied : List ℕ) → positions ≡ table.count
    → ((i : ℕ) → i < table.count → slice_index places i ≡ i) → lent ≡ row_values table → copied ≡ lent
    → StoresValues table.count (slice_index places) table.values (replicate positions zero_is) copied
copied_stored table places positions zero_is lent copied many own is same =
    subst (StoresValues table.count (slice_index places) table.values (replicate positions zero_is)) (sym (same ∙ is))
    (all_stored table.count (slice_index places) table.values (replicate positions zero_is) (row_values table) own
    (length-replicate positions zero_is ∙ many) (values_long table) (value_at table))
