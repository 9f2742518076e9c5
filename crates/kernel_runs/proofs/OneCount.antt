-- However entries are summed up and arranged for a format, its levels have one number of positions each.
use Rattle.std.specs.Prelude.{◌≡◌, ◌⊎◌, ℕ, zero, suc, ◌+◌, ◌≤◌, ◌<◌, if◌then◌else◌, List, [], ◌∷◌, length, map, All, slice_index}
use Rattle.std.specs.Prelude.{slice_index_or, IsPermutation, refl}
use Rattle.std.specs.List.{range_with_len}
use Rattle.std.proofs.Common.{◌∙◌, sym, ap, subst, arith, inl, inr}
use Rattle.std.proofs.Math.ListN.{get_or-eq_default}
use Rattle.std.proofs.lemmas.Bool.{cases_lt}
use Rattle.std.proofs.lemmas.List.{length-map, get_or-map}
use Rattle.std.proofs.lemmas.List.Sorted.{All-permutation, IsPermutation-map, IsPermutation-sym, IsPermutation-trans, length_permutation}
use Rattle.numbers.specs.Arithmetic.{Arithmetic}
use Rattle.level_core.specs.declared.letter.Letter.{Letter}
use Rattle.level_core.specs.Kinds.{capabilities, positions_for}
use Rattle.level_rows.specs.Tables.{IsBefore as IsRowBefore}
use Rattle.tensor_map.specs.Entries.{Entry, Listed, SameListed, StrictlyIncreasing, coords_of}
use Rattle.tensor_map.specs.Order.{IsBefore, Increasing}
use Rattle.tensor_map.proofs.OrderLaws.{before_all_trans}
use Rattle.format_spec.specs.declared.format.FormatLevel.{FormatLevel}
use Rattle.format_spec.specs.Formats.{letters_of}
use Rattle.tns_io.specs.Text.{IsAmong}
use Rattle.tns_io.proofs.TextLaws.{one_list}
use Rattle.tensor_storage.specs.Arranged.{AreArranged, level_coords, no_entry, table_of}
use Rattle.tensor_storage.specs.Chains.{chain_length}
use Rattle.tensor_storage.specs.Counts.{AreFew, different, greatest_below, positions_at, positions_from}
use Rattle.tensor_storage.specs.Storages.{in_level_order}
use Rattle.tensor_storage.specs.Tables.{Table}
use Rattle.operand_packing.specs.Packed.{FitsLevels, HavePositions}

-- ---- lists of coordinates that increase

-- where two lists of one length first differ, one of them is smaller
first_before : (xs ys : List ℕ) (d : ℕ) → length xs ≡ length ys → d < length xs
    → ((e : ℕ) → e < d → slice_index xs e ≡ slice_index ys e) → slice_index xs d < slice_index ys d → IsBefore xs ys
first_before [] ys d long within same less = absurd (omega (arith, within))
first_before (x ∷ xs) [] d long within same less = absurd (omega (arith, long))
first_before (x ∷ xs) (y ∷ ys) zero long within same less = inl less
first_before (x ∷ xs) (y ∷ ys) (suc d) long within same less =
    inr (
      same 0 (omega arith),
      first_before xs ys d (omega (arith, long)) (omega (arith, within))
          (λ e h. same (suc e) (omega (arith, h))) less,
    )

-- lists each of which stands before the next
rising : (rows : List (List ℕ))
    → ((i : ℕ) → suc i < length rows → IsBefore (slice_index_or rows i []) (slice_index_or rows (suc i) [])) → Increasing rows
rising [] each = tt
rising (row ∷ []) each = (tt, tt)
rising (row ∷ next ∷ rows) each =
    let rest = rising (next ∷ rows) (λ i h. each (suc i) (omega (arith, h))) in
    let first = each 0 (omega arith) in
    ((first, before_all_trans row next rows first rest.0), rest)

-- ---- the coordinates of entries
among_listed : (entries : List Entry) (coords : List ℕ) → IsAmong (coords_of entries) coords → Listed entries coords
among_listed [] coords among = among
among_listed (entry ∷ entries) coords (inl here) = inl here
among_listed (entry ∷ entries) coords (inr more) = inr (among_listed entries coords more)

listed_among : (entries : List Entry) (coords : List ℕ) → Listed entries coords → IsAmong (coords_of entries) coords
listed_among [] coords listed = listed
listed_among (entry ∷ entries) coords (inl here) = inl here
listed_among (entry ∷ entries) coords (inr more) = inr (listed_among entries coords more)

-- entries that increase and name the same have the same coordinates, one after another
same_coords : (entries first second : List Entry) → SameListed entries first → SameListed entries second → StrictlyIncreasing first
    → StrictlyIncreasing second → coords_of first ≡ coords_of second
same_coords entries first second one two up up' =
    one_list (coords_of first) (coords_of second) up up'
    (λ coords among. listed_among second coords ((two coords).1 ((one coords).0 (among_listed first coords among))))
    (λ coords among. listed_among first coords ((one coords).1 ((two coords).0 (among_listed second coords among))))

coords_at : (entries : List Entry) (k : ℕ) → (slice_index_or entries k no_entry).coords ≡ slice_index_or (coords_of entries) k []
coords_at [] k = refl
coords_at (entry ∷ entries) zero = refl
coords_at (entry ∷ entries) (suc k) = coords_at entries k

-- ---- rows of a table
module _ (format : List FormatLevel) where
  -- the row of a number, told by the coordinates of all entries
  abbrev row_at : List (List ℕ) → ℕ → List ℕ
  row_at all k = in_level_order format (slice_index_or all k [])

  row_is : (entries : List Entry) (k : ℕ) → level_coords format entries k ≡ row_at (coords_of entries) k
  row_is entries k = ap (in_level_order format) (coords_at entries k)

  row_long : (all : List (List ℕ)) (k : ℕ) → length (row_at all k) ≡ length format
  row_long all k = length-map format (λ level. slice_index (slice_index_or all k []) level.mode)

  abbrev rows_of : List (List ℕ) → List ℕ → List (List ℕ)
  rows_of all numbers = map (row_at all) numbers

  rows_at : (all : List (List ℕ)) (numbers : List ℕ) (i : ℕ) → i < length numbers
      → slice_index_or (rows_of all numbers) i [] ≡ row_at all (slice_index numbers i)
  rows_at all numbers i h = get_or-map (row_at all) numbers i 0 [] h

  -- rows that are arranged increase
  rows_rise : (entries : List Entry) (numbers : List ℕ) → AreArranged format entries numbers
      → Increasing (rows_of (coords_of entries) numbers)
  rows_rise entries numbers arranged = rising (rows_of (coords_of entries) numbers) each
    where
      as_many : length (rows_of (coords_of entries) numbers) ≡ length numbers
      as_many = length-map numbers (row_at (coords_of entries))

      by : (i : ℕ) → IsRowBefore (table_of format entries numbers).coords (length format) i (suc i)
          → IsBefore (row_at (coords_of entries) (slice_index numbers i)) (row_at (coords_of entries) (slice_index numbers (suc i)))
      by i before =
          let within = before.1 in
          let long = row_long (coords_of entries) (slice_index numbers i) in
          first_before (row_at (coords_of entries) (slice_index numbers i)) (row_at (coords_of entries) (slice_index numbers (suc i)))
          before.0 (long ∙ sym (row_long (coords_of entries) (slice_index numbers (suc i)))) (omega (arith, within, long))
          (λ e h. ap (λ (xs : List ℕ). slice_index xs e) (sym (row_is entries (slice_index numbers i))) ∙ before.2 e h
          ∙ ap (λ (xs : List ℕ). slice_index xs e) (row_is entries (slice_index numbers (suc i))))
          (subst (λ (xs : List ℕ). slice_index xs before.0 < slice_index (row_at (coords_of entries) (slice_index numbers (suc i)))
          before.0)
          (row_is entries (slice_index numbers i))
          (subst (λ (xs : List ℕ). slice_index (level_coords format entries (slice_index numbers i)) before.0 < slice_index xs before.0)
          (row_is entries (slice_index numbers (suc i))) before.3))

      each : (i : ℕ) → suc i < length (rows_of (coords_of entries) numbers)
          → IsBefore (slice_index_or (rows_of (coords_of entries) numbers) i [])
          (slice_index_or (rows_of (coords_of entries) numbers) (suc i) [])
      each i h =
          let within : suc i < length numbers = omega (arith, h, as_many) in
          subst (λ xs. IsBefore xs (slice_index_or (rows_of (coords_of entries) numbers) (suc i) []))
          (sym (rows_at (coords_of entries) numbers i (omega (arith, within))))
          (subst (λ xs. IsBefore (row_at (coords_of entries) (slice_index numbers i)) xs)
          (sym (rows_at (coords_of entries) numbers (suc i) within)) (by i (arranged.order i within)))

  all_among : (rows front : List (List ℕ)) → ((row : List ℕ) → IsAmong rows row → IsAmong front row) → All (IsAmong front) rows
  all_among [] front among i d h = absurd (omega (arith, h))
  all_among (row ∷ rows) front among zero d h = among row (inl refl)
  all_among (row ∷ rows) front among (suc i) d h =
      all_among rows front (λ other there. among other (inr there)) i d (omega (arith, h))

  among_all : (rows front : List (List ℕ)) → All (IsAmong front) rows → (row : List ℕ) → IsAmong rows row → IsAmong front row
  among_all [] front all row among = absurd among
  among_all (first ∷ rows) front all row (inl here) = subst (IsAmong front) here (all 0 [] (omega arith))
  among_all (first ∷ rows) front all row (inr more) =
      among_all rows front (λ i d h. all (suc i) d (omega (arith, h))) row more

  -- lists that are the same but for their order have the same among them
  among_moved : (rows others : List (List ℕ)) → IsPermutation rows others → (row : List ℕ) → IsAmong others row → IsAmong rows row
  among_moved rows others moved =
      among_all others rows (All-permutation (IsAmong rows) rows others moved (all_among rows rows (λ row there. there)))

  -- numbers of one length that arrange the same coordinates give the same rows
  same_rows : (all : List (List ℕ)) (n : ℕ) (first second : List ℕ) → IsPermutation (range_with_len 0 n) first
      → IsPermutation (range_with_len 0 n) second → Increasing (rows_of all first) → Increasing (rows_of all second)
      → rows_of all first ≡ rows_of all second
  same_rows all n first second one two up up' =
      let moved : IsPermutation first second =
      IsPermutation-trans first (range_with_len 0 n) second (IsPermutation-sym (range_with_len 0 n) first one) two in
      let back : IsPermutation second first = IsPermutation-sym first second moved in
      one_list (rows_of all first) (rows_of all second) up up'
      (among_moved (rows_of all second) (rows_of all first) (IsPermutation-map (row_at all) second first back))
      (among_moved (rows_of all first) (rows_of all second) (IsPermutation-map (row_at all) first second moved))

  -- then each row of the tables is the same, and behind the last row too
  same_at : (all : List (List ℕ)) (first second : List ℕ) → length first ≡ length second → rows_of all first ≡ rows_of all second → (i : ℕ)
      → row_at all (slice_index first i) ≡ row_at all (slice_index second i)
  same_at all first second long same i = by (cases_lt i (length first))
    where
      by : (i < length first) ⊎ (length first ≤ i) → row_at all (slice_index first i) ≡ row_at all (slice_index second i)
      by (inl within) =
          sym (rows_at all first i within) ∙ ap (λ (rows : List (List ℕ)). slice_index_or rows i []) same
          ∙ rows_at all second i (omega (arith, within, long))
      by (inr behind) =
          ap (row_at all) (get_or-eq_default first 0 behind ∙ sym (get_or-eq_default second 0 (omega (arith, behind, long))))

-- ---- positions, told by rows alone
abbrev positions_by : (ℕ → ℕ → ℕ) → ℕ → ℕ → ℕ → Letter → List Letter → ℕ → ℕ
positions_by coords count d parents letter letters size =
    if (capabilities letter).append then different coords (d + chain_length (letter ∷ letters)) count
    else positions_for letter size parents (greatest_below coords d count count)

module _ (t u : Table) (coords : t.coords ≡ u.coords) (count : t.count ≡ u.count) where
  positions_same : (d parents : ℕ) (letters : List Letter) (sizes : List ℕ)
      → positions_from t d parents letters sizes ≡ positions_from u d parents letters sizes
  positions_same d parents [] sizes = refl
  positions_same d parents (letter ∷ letters) [] = refl
  positions_same d parents (letter ∷ letters) (size ∷ sizes) =
      let here : positions_at t d parents letter letters size ≡ positions_at u d parents letter letters size =
      λ i. positions_by (coords i) (count i) d parents letter letters size in
      ap (λ n. n ∷ positions_from t (suc d) n letters sizes) here
      ∙ ap (λ ns. positions_at u d parents letter letters size ∷ ns)
      (positions_same (suc d) (positions_at u d parents letter letters size) letters sizes)

pub one_count : (a : Arithmetic) (format : List FormatLevel) (sizes : List ℕ) (entries : List Entry) (first second : List ℕ)
    → HavePositions a format sizes entries first → HavePositions a format sizes entries second → first ≡ second
one_count a format sizes entries first second one two =
    one.counts_are
    ∙ positions_same (table_of format one.summed one.numbers) (table_of format two.summed two.numbers)
    (λ t d i. coords d i t) counts 0 1 (letters_of format) (in_level_order format sizes)
    ∙ sym two.counts_are
  where
    all : coords_of one.summed ≡ coords_of two.summed
    all = same_coords entries one.summed two.summed one.are_summed.listed two.are_summed.listed one.are_summed.increasing
        two.are_summed.increasing

    entries_many : length one.summed ≡ length two.summed
    entries_many = sym (length-map one.summed (λ (entry : Entry). entry.coords)) ∙ ap (λ (cs : List (List ℕ)). length cs) all
        ∙ length-map two.summed (λ (entry : Entry). entry.coords)

    moved : IsPermutation (range_with_len 0 (length one.summed)) two.numbers
    moved = subst (λ n. IsPermutation (range_with_len 0 n) two.numbers) (sym entries_many) two.arranged.all

    counts : length one.numbers ≡ length two.numbers
    counts = length_permutation (range_with_len 0 (length one.summed)) one.numbers one.arranged.all
        ∙ sym (length_permutation (range_with_len 0 (length one.summed)) two.numbers moved)

    rows : rows_of format (coords_of one.summed) one.numbers ≡ rows_of format (coords_of one.summed) two.numbers
    rows = same_rows format (coords_of one.summed) (length one.summed) one.numbers two.numbers one.arranged.all moved
        (rows_rise format one.summed one.numbers one.arranged)
        (subst (λ cs. Increasing (rows_of format cs two.numbers)) (sym all) (rows_rise format two.summed two.numbers two.arranged))

    coords : (d i : ℕ) → slice_index (level_coords format one.summed (slice_index one.numbers i)) d
        ≡ slice_index (level_coords format two.summed (slice_index two.numbers i)) d
    coords d i =
        ap (λ (xs : List ℕ). slice_index xs d) (row_is format one.summed (slice_index one.numbers i)
        ∙ same_at format (coords_of one.summed) one.numbers two.numbers counts rows i
        ∙ ap (λ (cs : List (List ℕ)). row_at format cs (slice_index two.numbers i)) all
        ∙ sym (row_is format two.summed (slice_index two.numbers i)))

pub fits_by_one : (a : Arithmetic) (format : List FormatLevel) (sizes : List ℕ) (entries : List Entry) (counts : List ℕ)
    → HavePositions a format sizes entries counts → AreFew counts → FitsLevels a format sizes entries
fits_by_one a format sizes entries counts have few = λ others also.
    subst AreFew (one_count a format sizes entries counts others have also) few
