-- The values of a result that held rows: at the position of each sum of the rows that sum, and a zero at each other position.
use Rattle.std.specs.Prelude.{◌≡◌, ◌≢◌, ◌⊎◌, ℕ, zero, suc, ◌+◌, ◌-◌, ◌*◌, ◌/◌, ◌%◌, ◌≤◌, ◌<◌, List, [], ◌∷◌, ◌++◌, length, take, drop}
use Rattle.std.specs.Prelude.{false, replicate, slice_index, refl}
use Rattle.std.proofs.Common.{◌∙◌, sym, ap, arith, inl, inr}
use Rattle.std.proofs.Math.Nat.{div-lt_iff_lt-mul, mod-lt}
use Rattle.std.proofs.Math.Seq.{take-append_seam, drop-append_seam}
use Rattle.std.proofs.lemmas.Bool.{cases_lt}
use Rattle.std.proofs.lemmas.List.{get_or_past, length-replicate}
use Rattle.std.proofs.lemmas.Nat.{div-add-mod'}
use Rattle.lists.specs.Each.{Each}
use Rattle.numbers.specs.Arithmetic.{Arithmetic, Laws}
use Rattle.tensor_map.specs.Entries.{Entry, Listed, value_at}
use Rattle.tensor_map.proofs.Lemmas.{value_of_entry, value_unlisted}
use Rattle.level_core.specs.declared.letter.Letter.{Letter}
use Rattle.level_core.specs.Kinds.{properties}
use Rattle.level_rows.specs.Rows.{begun, place}
use Rattle.level_rows.specs.Tables.{Increase, AllPlaced}
use Rattle.level_rows.specs.Values.{StoresValues}
use Rattle.level_rows.proofs.PlaceLaws.{appended_all_placed}
use Rattle.concrete_notation.specs.Contributions.{sums_of}
use Rattle.concrete_notation.proofs.SumsOf.{sums_increasing, sums_value}
use Rattle.tensor_storage.specs.Arranged.{no_entry}
use Rattle.tensor_storage.specs.Tables.{AreBelow}
use Rattle.tensor_storage.proofs.PackSteps.{all_same}
use Rattle.tns_io.specs.Positions.{product, IsBelow, coords_at, position}
use Rattle.tns_io.proofs.PositionLaws as positions
use Rattle.level_appends.proofs.Keys.{same_row}
use Rattle.level_appends.proofs.Matched.{Matches}
use Rattle.sparse_results.specs.Tables.{table_of, IsRow}
use Rattle.appended_results.specs.Heads.{letter_at, key_in, row_at, AreHeads}
use Rattle.appended_results.specs.Places.{first_at, place_above, positions_above, rows_above}
use Rattle.appended_results.specs.Levels.{MayHold}
use Rattle.appended_results.specs.Rows.{all_positions}
use Rattle.appended_results.specs.Sums.{head_at, spot_of, HoldsSums}
use Rattle.appended_results.proofs.LevelSteps.{sparse_positions, sparse_place}
use Rattle.appended_results.proofs.RowHeads.{each_at as head_long}
use Rattle.appended_results.proofs.SumLaws.{all_are}
use Rattle.appended_kernels.proofs.Finer.{place_of, place_headed, place_tail}
use Rattle.appended_kernels.proofs.Names.{listed_row, sum_word, sum_long, sum_front, sum_coords}

-- coordinates that are below ranges one by one
pub below_from : (sizes coords : List ℕ) → length coords ≡ length sizes
    → ((d : ℕ) → d < length sizes → slice_index coords d < slice_index sizes d) → IsBelow sizes coords
below_from [] [] long each = tt
below_from [] (x ∷ xs) long each = absurd (omega (arith, long))
below_from (n ∷ ns) [] long each = absurd (omega (arith, long))
below_from (n ∷ ns) (x ∷ xs) long each =
    (each 0 (omega arith), below_from ns xs (omega (arith, long)) (λ d h. each (suc d) (omega (arith, h))))

-- so are those behind the first ones
pub below_behind : (m : ℕ) (sizes coords : List ℕ) → IsBelow sizes coords → IsBelow (drop m sizes) (drop m coords)
below_behind zero sizes coords b = b
below_behind (suc m) [] [] b = tt
below_behind (suc m) [] (x ∷ xs) b = absurd b
below_behind (suc m) (n ∷ ns) [] b = absurd b
below_behind (suc m) (n ∷ ns) (x ∷ xs) b = below_behind m ns xs b.1

-- each position is that of a head and of coordinates below it
pub record IsSpot (letters : List Letter) (sizes : List ℕ) (head : ℕ) (heads : List (List ℕ)) (pos : ℕ) : Type 0 where
  pub number : ℕ
  pub inside : number < length heads
  pub coords : List ℕ
  pub below : IsBelow (drop head sizes) coords
  pub at : spot_of letters sizes head heads number coords ≡ pos

module _ (letters : List Letter) (sizes : List ℕ) (head : ℕ) (heads : List (List ℕ)) (may : MayHold letters sizes head heads) where
  some_product : (p q m : ℕ) → p < q * m → 0 < m
  some_product p q zero h = let none : q * 0 ≡ 0 = omega arith in absurd (omega (arith, h, none))
  some_product p q (suc m) h = omega arith

  module _ (pos : ℕ) (h : pos < all_positions letters sizes heads) where
    abbrev m : ℕ
    m = product (drop head sizes)

    abbrev top : ℕ
    top = head - 1

    within : pos < positions_above letters sizes (key_in heads) (length heads) head * product (drop head sizes)
    within = let all = all_are letters sizes head heads may in omega (arith, h, all)

    some : 0 < product (drop head sizes)
    some = some_product pos (positions_above letters sizes (key_in heads) (length heads) head) (product (drop head sizes)) within

    remainder_within : pos % product (drop head sizes) < product (drop head sizes)
    remainder_within = mod-lt pos some

    first_within : pos / product (drop head sizes) < positions_above letters sizes (key_in heads) (length heads) head
    first_within = (div-lt_iff_lt-mul some).1 within

    last : suc top ≡ head
    last = let n = may.is_head.some in omega (arith, n)

    sparse : (properties (letter_at letters top)).full ≡ false
    sparse = may.is_head.last top last

    placed : AllPlaced (length heads) (begun (first_at letters (key_in heads) top) (length heads))
        (place (first_at letters (key_in heads) top))
    placed =
        appended_all_placed (rows_above letters sizes (key_in heads) (length heads) top) (place (first_at letters (key_in heads) top))
        (λ i g. refl)

    counted : positions_above letters sizes (key_in heads) (length heads) head ≡ begun (first_at letters (key_in heads) top) (length heads)
    counted =
        ap (positions_above letters sizes (key_in heads) (length heads)) (sym last)
        ∙ sparse_positions letters sizes (key_in heads) (length heads) top sparse

    found : (j : ℕ) × (j < length heads) × (place (first_at letters (key_in heads) top) j ≡ pos / product (drop head sizes))
    found = placed (pos / m) (let f = first_within in let c = counted in omega (arith, f, c))

    there : place_above letters sizes (key_in heads) head found.0 ≡ pos / product (drop head sizes)
    there =
        ap (λ d. place_above letters sizes (key_in heads) d found.0) (sym last)
        ∙ sparse_place letters sizes (key_in heads) top found.0 sparse ∙ found.2

    pub each_spot : IsSpot letters sizes head heads pos
    each_spot = record {
      number = found.0;
      inside = found.1;
      coords = coords_at (drop head sizes) (pos % m);
      below = positions.coords_below (drop head sizes) (pos % m) remainder_within;
      at =
          ap (λ p. p * m + position (drop head sizes) (coords_at (drop head sizes) (pos % m))) there
          ∙ ap (λ r. pos / m * m + r) (positions.position_of_coords (drop head sizes) (pos % m) remainder_within)
          ∙ div-add-mod' pos m;
    }

module _ (a : Arithmetic) (laws : Laws a) (letters : List Letter) (sizes : List ℕ) (head : ℕ) (heads : List (List ℕ)) (rows : List Entry)
    (words : List ℕ) (may : MayHold letters sizes head heads) (are : AreHeads head rows heads)
    (each : Each (IsRow (length letters)) rows)
    (order : Increase (table_of (sums_of a rows)).coords (length letters) (length (sums_of a rows)))
    (below : AreBelow (table_of (sums_of a rows)) sizes) (to : ℕ → ℕ)
    (matches : Matches head (key_in heads) (length heads) (table_of (sums_of a rows)).coords (length (sums_of a rows)) to)
    (sums : HoldsSums a letters sizes head heads rows words) where
  abbrev row : ℕ → List ℕ
  row i = (row_at (sums_of a rows) i).coords

  abbrev rest : ℕ → List ℕ
  rest i = drop head (row_at (sums_of a rows) i).coords

  rest_below : (i : ℕ) → i < length (sums_of a rows) → IsBelow (drop head sizes) (rest i)
  rest_below i h =
      below_behind head sizes (row i)
      (below_from sizes (row i) (sum_long a (length letters) rows each i h ∙ sym may.each) (λ d inside. below d i inside h))

  -- a sum stands at the spot of its coordinates
  spot_is : (i : ℕ) → i < length (sums_of a rows)
      → place_of letters sizes (key_in heads) (table_of (sums_of a rows)).coords to (length letters) i
      ≡ spot_of letters sizes head heads (to i) (rest i)
  spot_is i h =
      let within = may.is_head.within in
      place_tail letters sizes head heads may (table_of (sums_of a rows)) to matches (row i) i (sum_long a (length letters) rows each i h)
      (λ e. refl) (length letters - head) head (omega arith) (omega (arith, within))
      ∙ ap (λ p. p * product (drop head sizes) + position (drop head sizes) (rest i))
      (place_headed letters sizes head heads may (table_of (sums_of a rows)) to matches head (omega arith) i h)

  deep : head ≤ length letters
  deep = may.is_head.within

  -- where it is stored
  sum_there : (i : ℕ) → i < length (sums_of a rows)
      → slice_index words (spot_of letters sizes head heads (to i) (rest i)) ≡ (row_at (sums_of a rows) i).value
  sum_there i h =
      sums.each (to i) (rest i) (matches.within i h) (rest_below i h)
      ∙ ap (value_at a rows) (sum_coords a (length letters) rows each head heads are deep order to matches i h)
      ∙ sym (sums_value a laws (row i) rows)
      ∙ value_of_entry a laws (sums_of a rows) i no_entry (sums_increasing a rows) h (sum_word a (length letters) rows each laws i h)

  -- at a spot where no sum stands there is a zero
  zero_there : (j : ℕ) (xs : List ℕ) → j < length heads → IsBelow (drop head sizes) xs
      → ((i : ℕ) → i < length (sums_of a rows)
      → spot_of letters sizes head heads (to i) (rest i) ≢ spot_of letters sizes head heads j xs)
      → slice_index words (spot_of letters sizes head heads j xs) ≡ a.zero
  zero_there j xs inside b away =
      sums.each j xs inside b ∙ sym (sums_value a laws (head_at heads j ++ xs) rows)
      ∙ value_unlisted a laws (head_at heads j ++ xs) (sums_of a rows) unlisted
    where
      unlisted : Listed (sums_of a rows) (head_at heads j ++ xs) → ⊥
      unlisted listed =
          let k = listed_row (sums_of a rows) (head_at heads j ++ xs) listed in
          let long = head_long head heads j are.long inside in
          let front : take head (row k.0) ≡ head_at heads j =
          ap (take head) k.2 ∙ ap (λ n. take n (head_at heads j ++ xs)) (sym long) ∙ take-append_seam (head_at heads j) xs in
          let back : drop head (row k.0) ≡ xs =
          ap (drop head) k.2 ∙ ap (λ n. drop n (head_at heads j ++ xs)) (sym long) ∙ drop-append_seam (head_at heads j) xs in
          let own = sum_front a (length letters) rows each head heads are deep order to matches k.0 k.1 in
          let same : to k.0 ≡ j = same_row (key_in heads) head (length heads) (to k.0) j may.rise (matches.within k.0 k.1) inside
          (λ d l. ap (λ key. slice_index key d) (sym own ∙ front)) in
          away k.0 k.1
          (ap (λ i. spot_of letters sizes head heads i (rest k.0)) same ∙ ap (spot_of letters sizes head heads j) back)

  -- all values
  pub sums_stored : (ps : List ℕ) → ((i : ℕ) → i < length (sums_of a rows)
      → slice_index ps i ≡ place_of letters sizes (key_in heads) (table_of (sums_of a rows)).coords to (length letters) i)
      → StoresValues (length (sums_of a rows)) (slice_index ps) (table_of (sums_of a rows)).values
      (replicate (all_positions letters sizes heads) a.zero) words
  sums_stored ps at = record {
    long = sums.many ∙ sym (length-replicate (all_positions letters sizes heads) a.zero);
    stored = λ i h. ap (slice_index words) (at i h ∙ spot_is i h) ∙ sum_there i h;
    others = λ p away. by_order p away (cases_lt p (all_positions letters sizes heads));
  }
    where
      by_order : (p : ℕ) → ((i : ℕ) → i < length (sums_of a rows) → slice_index ps i ≢ p)
          → (p < all_positions letters sizes heads) ⊎ (all_positions letters sizes heads ≤ p)
          → slice_index words p ≡ slice_index (replicate (all_positions letters sizes heads) a.zero) p
      by_order p away (inl less) =
          let spot = each_spot letters sizes head heads may p less in
          ap (slice_index words) (sym spot.at)
          ∙ zero_there spot.number spot.coords spot.inside spot.below (λ i h e. away i h (at i h ∙ spot_is i h ∙ e ∙ spot.at))
          ∙ sym (all_same (all_positions letters sizes heads) p a.zero less)
      by_order p away (inr past) =
          let many = sums.many in
          let long = length-replicate (all_positions letters sizes heads) a.zero in
          get_or_past words p 0 (omega (arith, past, many))
          ∙ sym (get_or_past (replicate (all_positions letters sizes heads) a.zero) p 0 (omega (arith, past, long)))
