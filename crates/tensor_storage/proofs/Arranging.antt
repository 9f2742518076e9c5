-- Numbers of entries that are sorted by their coordinates arrange the entries.
use Rattle.std.specs.Prelude.{◌≡◌, ◌≢◌, ◌⊎◌, ℕ, zero, suc, ◌+◌, ◌≤◌, ◌<◌, ◌==◌, Bool, false, List, [], ◌∷◌, ◌++◌, length, drop, All}
use Rattle.std.specs.Prelude.{AllPairs, slice_index, IsPermutation, refl}
use Rattle.std.specs.List.{range_with_len}
use Rattle.std.specs.declared.cmp.Ordering.{Ordering}
use Rattle.std.specs.declared.cmp.Ordering.TheVariants.{Less, Equal, Greater}
use Rattle.std.specs.Ordering.{nat_cmp, is_lt, ordering_then}
use Rattle.std.specs.Cmp.{IsStrictWeakOrder}
use Rattle.std.specs.Cmp.Lexicographic.{slice_cmp, nat_list_cmp_total}
use Rattle.std.specs.List.Sorted.{IsSortedBy}
use Rattle.std.proofs.Common.{◌∙◌, sym, ap, subst, arith, inl, inr, get_or, add-one, drop-cons, drop_of_length-le}
use Rattle.std.proofs.Math.ListN.{get_or-eq_default}
use Rattle.std.proofs.lemmas.Bool.{cases_order}
use Rattle.std.proofs.lemmas.Bool.Decides.{Decides-eqb}
use Rattle.std.proofs.lemmas.Grind.{same_number_lists}
use Rattle.std.proofs.lemmas.List.{length-map, get_or-map}
use Rattle.std.proofs.lemmas.List.FromFn.{length-range_with_len, get_or-range_with_len}
use Rattle.std.proofs.lemmas.List.Sorted.{ranks_by, All-permutation, length_permutation}
use Rattle.std.proofs.lemmas.Map.Keys.{IsDistinct-IsPermutation}
use Rattle.std.proofs.lemmas.Map.Made.{AllPairs-from_IsDistinct, IsDistinct-from_AllPairs}
use Rattle.format_spec.specs.declared.format.FormatLevel.{FormatLevel}
use Rattle.format_spec.specs.Formats.{modes_of, IsFormat}
use Rattle.format_spec.proofs.Pigeonholes.{each_mode_stands}
use Rattle.level_core.specs.declared.letter.Letter.TheVariants.{Dense}
use Rattle.level_rows.specs.Tables.{IsBefore, Increase}
use Rattle.tensor_map.specs.Order.{IsBefore as IsListBefore}
use Rattle.tensor_map.specs.Entries.{Entry, IsEntry, StrictlyIncreasing}
use Rattle.tensor_map.proofs.OrderLaws.{before_irreflexive, before_trans, compared_as}
use Rattle.tensor_map.proofs.Lemmas.{apart_at, before_at}
use Rattle.tensor_storage.specs.declared.packing.PackRefusal.{PackRefusal}
use Rattle.tensor_storage.specs.declared.packing.PackRefusal.TheVariants.{Memory, SizeLimit}
use Rattle.tensor_storage.specs.Arranged.{no_entry, level_coords, table_of, AreArranged, AreInside, IsRefusalOf}
use Rattle.tensor_storage.specs.Counts.{positions_of}
use Rattle.tensor_storage.specs.Packed.{IsRefusal}
use Rattle.tensor_storage.specs.Storages.{in_level_order}
use Rattle.tensor_storage.specs.Tables.{AreBelow}
use Rattle.tensor_storage.proofs.Paths.{mode_below}

-- whether the entry of the first number stands before that of the second
abbrev pub is_before : List FormatLevel → List Entry → ℕ → ℕ → Bool
is_before format entries left right = is_lt (slice_cmp nat_cmp (level_coords format entries left) (level_coords format entries right))

pub is_before_orders : (format : List FormatLevel) (entries : List Entry) → IsStrictWeakOrder (is_before format entries)
is_before_orders format entries = ranks_by nat_list_cmp_total (λ (number : ℕ). level_coords format entries number)

-- what isn't after is before, or the same
not_after : (xs ys : List ℕ) (r : Ordering) → slice_cmp nat_cmp ys xs ≡ r → is_lt r ≡ false → IsListBefore xs ys ⊎ (ys ≡ xs)
not_after xs ys Less e h = absurd (cc)
not_after xs ys Equal e h = inr (compared_as ys xs Equal e)
not_after xs ys Greater e h = inl (compared_as ys xs Greater e)

-- where two lists of one length first differ
record Differs (xs ys : List ℕ) : Type 0 where
  at : ℕ
  within : at < length xs
  same : (e : ℕ) → e < at → slice_index xs e ≡ slice_index ys e
  less : slice_index xs at < slice_index ys at

differs : (xs ys : List ℕ) → length xs ≡ length ys → IsListBefore xs ys → Differs xs ys
differs [] [] long h = absurd h
differs [] (y ∷ ys) long h = absurd (omega (arith, long))
differs (x ∷ xs) [] long h = absurd h
differs (x ∷ xs) (y ∷ ys) long (inl less) = record { at = 0; within = omega arith; same = λ e l. absurd (omega (arith, l)); less = less }
differs (x ∷ xs) (y ∷ ys) long (inr rest) =
    let k = differs xs ys (omega (arith, long)) rest.1 in
    let within = k.within in
    record { at = suc k.at; within = omega (arith, within); same = λ e l. later k e l; less = k.less }
  where
    later : (k : Differs xs ys) (e : ℕ) → e < suc k.at → slice_index (x ∷ xs) e ≡ slice_index (y ∷ ys) e
    later k zero l = rest.0
    later k (suc e) l = k.same e (omega (arith, l))

-- the coordinate of a level is that of its mode
pub level_coord : (format : List FormatLevel) (coords : List ℕ) (k : ℕ) (d : FormatLevel) → k < length format
    → slice_index (in_level_order format coords) k ≡ slice_index coords (get_or format k d).mode
level_coord format coords k d h = get_or-map (λ level. slice_index coords level.mode) format k d 0 h

none : FormatLevel
none = record { letter = Dense; mode = 0 }

-- coordinates in the order of the levels tell those in the order of the modes
pub coords_back : (format : List FormatLevel) (xs ys : List ℕ) → IsFormat format → length xs ≡ length format → length ys ≡ length format
    → in_level_order format xs ≡ in_level_order format ys → xs ≡ ys
coords_back format xs ys is long also same = same_number_lists xs ys (long ∙ sym also) (λ mode h. at mode (omega (arith, long, h)))
  where
    at : (mode : ℕ) → mode < length format → slice_index xs mode ≡ slice_index ys mode
    at mode h =
        let k = each_mode_stands (length format) (modes_of format) mode is.order h in
        let is_mode : (get_or format k.0 none).mode ≡ mode = sym (get_or-map (λ level. level.mode) format k.0 none 0 k.1) ∙ k.2 in
        ap (slice_index xs) (sym is_mode) ∙ sym (level_coord format xs k.0 none k.1) ∙ ap (λ zs. slice_index zs k.0) same
        ∙ level_coord format ys k.0 none k.1 ∙ ap (slice_index ys) is_mode

range_apart : (n : ℕ) → AllPairs (λ x y. x ≢ y) (range_with_len 0 n)
range_apart n i j d less within =
    let long = length-range_with_len 0 n in
    let a = get_or-range_with_len 0 n i d (omega (arith, less, within, long)) in
    let b = get_or-range_with_len 0 n j d (omega (arith, within, long)) in
    λ same. omega (arith, less, a, b, same)

range_below : (n : ℕ) → All (λ k. k < n) (range_with_len 0 n)
range_below n k d h =
    let long = length-range_with_len 0 n in
    let a = get_or-range_with_len 0 n k d (omega (arith, h, long)) in
    omega (arith, a, h, long)

flips : (x y : ℕ) → (x == y) ≡ (y == x)
flips x y = grind arith

module _ (format : List FormatLevel) (entries : List Entry) (numbers : List ℕ) (is : IsFormat format)
    (each : All (IsEntry (length format)) entries) (up : StrictlyIncreasing entries)
    (moved : IsPermutation (range_with_len 0 (length entries)) numbers) where
  pub number_below : All (λ k. k < length entries) numbers
  number_below = All-permutation (λ k. k < length entries) (range_with_len 0 (length entries)) numbers moved (range_below (length entries))

  numbers_apart : AllPairs (λ x y. x ≢ y) numbers
  numbers_apart = AllPairs-from_IsDistinct {eq = λ x y. x == y} Decides-eqb numbers
      (IsDistinct-IsPermutation (λ x y. x == y) flips (range_with_len 0 (length entries)) numbers moved
      (IsDistinct-from_AllPairs {eq = λ x y. x == y} Decides-eqb (range_with_len 0 (length entries)) (range_apart (length entries))))

  entries_apart : (a b : ℕ) → a < length entries → b < length entries → a ≢ b
      → (get_or entries a no_entry).coords ≡ (get_or entries b no_entry).coords → ⊥
  entries_apart a b h k apart same = by_order (cases_order a b)
    where
      by_order : (a ≡ b) ⊎ ((a < b) ⊎ (b < a)) → ⊥
      by_order (inl is) = apart is
      by_order (inr (inl less)) = apart_at entries a b no_entry up less k same
      by_order (inr (inr less)) = apart_at entries b a no_entry up less h (sym same)

  long_at : (k : ℕ) → length (level_coords format entries k) ≡ length format
  long_at k = length-map format (λ level. slice_index (get_or entries k no_entry).coords level.mode)

  -- each entry stands before the next
  pub rows_increase : IsSortedBy (is_before format entries) numbers
      → Increase (table_of format entries numbers).coords (length format) (length numbers)
  rows_increase sorted i h =
      by_case (not_after (level_coords format entries (slice_index numbers i)) (level_coords format entries (slice_index numbers (suc i)))
      (slice_cmp nat_cmp (level_coords format entries (slice_index numbers (suc i)))
      (level_coords format entries (slice_index numbers i))) refl at)
    where
      at : is_before format entries (slice_index numbers (suc i)) (slice_index numbers i) ≡ false
      at = let next : i + 1 ≡ suc i = omega arith in
          subst (λ j. is_before format entries (slice_index numbers j) (slice_index numbers i) ≡ false) next
          (sorted i 0 (omega arith) (omega (arith, h)))

      never : level_coords format entries (slice_index numbers (suc i)) ≡ level_coords format entries (slice_index numbers i) → ⊥
      never same =
          let below = number_below i 0 (omega (arith, h)) in
          let below_next = number_below (suc i) 0 h in
          entries_apart (slice_index numbers i) (slice_index numbers (suc i)) below below_next (numbers_apart i (suc i) 0 (omega arith) h)
          (coords_back format (get_or entries (slice_index numbers i) no_entry).coords
          (get_or entries (slice_index numbers (suc i)) no_entry).coords is (each (slice_index numbers i) no_entry below).long
          (each (slice_index numbers (suc i)) no_entry below_next).long (sym same))

      by_case : IsListBefore (level_coords format entries (slice_index numbers i))
          (level_coords format entries (slice_index numbers (suc i)))
          ⊎ (level_coords format entries (slice_index numbers (suc i)) ≡ level_coords format entries (slice_index numbers i))
          → IsBefore (table_of format entries numbers).coords (length format) i (suc i)
      by_case (inr same) = absurd (never same)
      by_case (inl before) =
          let long = long_at (slice_index numbers i) in
          let k = differs (level_coords format entries (slice_index numbers i)) (level_coords format entries (slice_index numbers (suc i)))
          (long ∙ sym (long_at (slice_index numbers (suc i)))) before in
          let within = k.within in
          (k.at, omega (arith, within, long), k.same, k.less)

  pub arranged : IsSortedBy (is_before format entries) numbers → AreArranged format entries numbers
  arranged sorted = record { all = moved; order = rows_increase sorted }

  pub as_many : length numbers ≡ length entries
  as_many = length_permutation (range_with_len 0 (length entries)) numbers moved ∙ length-range_with_len 0 (length entries)

-- the rows are below the ranges of the levels
pub rows_below : (format : List FormatLevel) (entries : List Entry) (numbers ranges : List ℕ) → IsFormat format
    → length ranges ≡ length format → AreInside ranges entries → AreArranged format entries numbers
    → AreBelow (table_of format entries numbers) (in_level_order format ranges)
rows_below format entries numbers ranges is long inside arranged d i deep within =
    let order_long : length (in_level_order format ranges) ≡ length format = length-map format (λ level. slice_index ranges level.mode) in
    let level : d < length format = omega (arith, deep, order_long) in
    let number : slice_index numbers i < length entries =
    All-permutation (λ k. k < length entries) (range_with_len 0 (length entries)) numbers arranged.all (range_below (length entries)) i
    0 within in
    let mode : (get_or format d none).mode < length ranges = let below = mode_below format is d none level in omega (arith, below, long) in
    subst (λ x. x < slice_index (in_level_order format ranges) d)
    (sym (level_coord format (get_or entries (slice_index numbers i) no_entry).coords d none level))
    (subst (λ x. slice_index (get_or entries (slice_index numbers i) no_entry).coords (get_or format d none).mode < x)
    (sym (level_coord format ranges d none level))
    (inside (slice_index numbers i) no_entry number (get_or format d none).mode mode))

-- the coordinates from a level on
pub level_drop : (format : List FormatLevel) (entries : List Entry) (number level : ℕ) → level < length format
    → drop level (level_coords format entries number)
    ≡ slice_index (level_coords format entries number) level ∷ drop (suc level) (level_coords format entries number)
level_drop format entries number level h =
    let long : length (level_coords format entries number) ≡ length format =
    length-map format (λ l. slice_index (get_or entries number no_entry).coords l.mode) in
    drop-cons (level_coords format entries number) level 0 (omega (arith, long, h))

-- comparisons, level by level
pub compare_past : (xs ys : List ℕ) (level x y : ℕ) → drop level xs ≡ x ∷ drop (suc level) xs → drop level ys ≡ y ∷ drop (suc level) ys
    → nat_cmp x y ≡ Equal → slice_cmp nat_cmp (drop level xs) (drop level ys)
    ≡ slice_cmp nat_cmp (drop (suc level) xs) (drop (suc level) ys)
compare_past xs ys level x y here there same =
    ap (λ zs. slice_cmp nat_cmp zs (drop level ys)) here ∙ ap (slice_cmp nat_cmp (x ∷ drop (suc level) xs)) there
    ∙ ap (λ o. ordering_then o (slice_cmp nat_cmp (drop (suc level) xs) (drop (suc level) ys))) same

pub compare_here : (xs ys : List ℕ) (level x y : ℕ) (o : Ordering) → drop level xs ≡ x ∷ drop (suc level) xs
    → drop level ys ≡ y ∷ drop (suc level) ys → nat_cmp x y ≡ o → o ≢ Equal → slice_cmp nat_cmp (drop level xs) (drop level ys) ≡ o
compare_here xs ys level x y o here there is apart =
    ap (λ zs. slice_cmp nat_cmp zs (drop level ys)) here ∙ ap (slice_cmp nat_cmp (x ∷ drop (suc level) xs)) there
    ∙ ap (λ r. ordering_then r (slice_cmp nat_cmp (drop (suc level) xs) (drop (suc level) ys))) is
    ∙ decided o (slice_cmp nat_cmp (drop (suc level) xs) (drop (suc level) ys)) apart
  where
    decided : (r s : Ordering) → r ≢ Equal → ordering_then r s ≡ r
    decided Less s apart = refl
    decided Equal s apart = absurd (apart refl)
    decided Greater s apart = refl

-- where there is no such entry, its coordinates are zero
zero_coord : (format : List FormatLevel) (level : ℕ) → slice_index (in_level_order format []) level ≡ 0
zero_coord [] level = refl
zero_coord (l ∷ format) zero = refl
zero_coord (l ∷ format) (suc level) = zero_coord format level

pub no_number : (format : List FormatLevel) (entries : List Entry) (number level : ℕ) → length entries ≤ number
    → slice_index (level_coords format entries number) level ≡ 0
no_number format entries number level h = ap (λ entry. slice_index (in_level_order format entry.coords) level)
    (get_or-eq_default entries no_entry h) ∙ zero_coord format level

-- behind the last level nothing is left to compare
pub compare_ends : (format : List FormatLevel) (entries : List Entry) (left right level : ℕ) → length format ≤ level
    → slice_cmp nat_cmp (drop level (level_coords format entries left)) (drop level (level_coords format entries right)) ≡ Equal
compare_ends format entries left right level h =
    ap (λ xs. slice_cmp nat_cmp xs (drop level (level_coords format entries right))) (gone left) ∙ ap (slice_cmp nat_cmp []) (gone right)
  where
    gone : (number : ℕ) → drop level (level_coords format entries number) ≡ []
    gone number = let long : length (level_coords format entries number) ≡ length format =
        length-map format (λ l. slice_index (get_or entries number no_entry).coords l.mode) in
        drop_of_length-le (level_coords format entries number) {i = level} (omega (arith, long, h))

-- one number more
range_more : (a n : ℕ) → range_with_len a n ++ (a + n) ∷ [] ≡ range_with_len a (suc n)
range_more a zero = let same : a + 0 ≡ a = omega arith in ap (λ k. k ∷ []) same
range_more a (suc n) = let same : a + suc n ≡ (a + 1) + n = omega arith in
    ap (λ ks. a ∷ ks) (ap (λ k. range_with_len (a + 1) n ++ k ∷ []) same ∙ range_more (a + 1) n)

pub next_number : (n : ℕ) → range_with_len 0 n ++ n ∷ [] ≡ range_with_len 0 (n + 1)
next_number n =
    let same : 0 + n ≡ n = omega arith in
    ap (λ k. range_with_len 0 n ++ k ∷ []) (sym same) ∙ range_more 0 n ∙ ap (range_with_len 0) (sym (add-one n))

-- in their own order entries are named by their places
pub number_at : (n i : ℕ) → i < length (range_with_len 0 n) → slice_index (range_with_len 0 n) i ≡ i
number_at n i h =
    let long = length-range_with_len 0 n in
    let at = get_or-range_with_len 0 n i 0 (omega (arith, h, long)) in
    omega (arith, at)

-- what doesn't stand behind the next in its own order is sorted by the numbers
pub sorted_range : (before : ℕ → ℕ → Bool) (n : ℕ) → ((k : ℕ) → k + 1 < n → before (k + 1) k ≡ false)
    → IsSortedBy before (range_with_len 0 n)
sorted_range before n each k d low high =
    let long = length-range_with_len 0 n in
    let within : k + 1 < n = omega (arith, high, long) in
    let here : get_or (range_with_len 0 n) k d ≡ k = get_or-range_with_len 0 n k d (omega arith) ∙ omega arith in
    let next : get_or (range_with_len 0 n) (k + 1) d ≡ k + 1 = get_or-range_with_len 0 n (k + 1) d within ∙ omega arith in
    ap (λ x. before x (get_or (range_with_len 0 n) k d)) next ∙ ap (before (k + 1)) here ∙ each k within

-- coordinates in the order of the levels, where these store the modes in their order
own_coords : (format : List FormatLevel) (coords : List ℕ) → length coords ≡ length format
    → ((level : ℕ) → level < length format → slice_index (modes_of format) level ≡ level) → in_level_order format coords ≡ coords
own_coords format coords long in_order =
    let as_many : length (in_level_order format coords) ≡ length format = length-map format (λ level. slice_index coords level.mode) in
    same_number_lists (in_level_order format coords) coords (as_many ∙ sym long) (λ level h.
    let within : level < length format = omega (arith, as_many, h) in
    level_coord format coords level none within
    ∙ ap (slice_index coords) (sym (get_or-map (λ (stored : FormatLevel). stored.mode) format level none 0 within) ∙ in_order level within))

-- a coordinate list doesn't stand behind one that it comes before
behind : (xs ys : List ℕ) (r : Ordering) → slice_cmp nat_cmp ys xs ≡ r → IsListBefore xs ys → is_lt r ≡ false
behind xs ys Less e before = absurd (before_irreflexive xs (before_trans xs ys xs before (compared_as ys xs Less e)))
behind xs ys Equal e before = refl
behind xs ys Greater e before = refl

before_places : (entries : List Entry) (i j : ℕ) (d : Entry) → StrictlyIncreasing entries → i < j → j < length entries
    → IsListBefore (get_or entries i d).coords (get_or entries j d).coords
before_places [] i j d up less h = absurd (omega (arith, h))
before_places (entry ∷ entries) zero zero d up less h = absurd (omega (arith, less))
before_places (entry ∷ entries) zero (suc j) d up less h = before_at entry.coords entries j d up.0 (omega (arith, h))
before_places (entry ∷ entries) (suc i) zero d up less h = absurd (omega (arith, less))
before_places (entry ∷ entries) (suc i) (suc j) d up less h = before_places entries i j d up.1 (omega (arith, less)) (omega (arith, h))

-- increasing entries stand in the order of levels that store the modes in theirs
pub own_order : (format : List FormatLevel) (entries : List Entry) → All (IsEntry (length format)) entries → StrictlyIncreasing entries
    → ((level : ℕ) → level < length format → slice_index (modes_of format) level ≡ level)
    → IsSortedBy (is_before format entries) (range_with_len 0 (length entries))
own_order format entries each up in_order = sorted_range (is_before format entries) (length entries) (λ k h.
    let first : k < length entries = omega arith in
    let here : level_coords format entries k ≡ (get_or entries k no_entry).coords =
    own_coords format (get_or entries k no_entry).coords (each k no_entry first).long in_order in
    let next : level_coords format entries (k + 1) ≡ (get_or entries (k + 1) no_entry).coords =
    own_coords format (get_or entries (k + 1) no_entry).coords (each (k + 1) no_entry h).long in_order in
    (λ i. is_lt (slice_cmp nat_cmp (next i) (here i)))
    ∙ behind (get_or entries k no_entry).coords (get_or entries (k + 1) no_entry).coords
    (slice_cmp nat_cmp (get_or entries (k + 1) no_entry).coords (get_or entries k no_entry).coords) refl
    (before_places entries k (k + 1) no_entry up (omega arith) h))

-- entries are arranged for a format that is read anew as well
pub same_arranged : (given format : List FormatLevel) (entries : List Entry) (numbers : List ℕ) → given ≡ format
    → AreArranged given entries numbers → AreArranged format entries numbers
same_arranged given format entries numbers same a = subst (λ f. AreArranged f entries numbers) same a

-- a refusal of the rows is one of the entries
pub refused : (format : List FormatLevel) (ranges : List ℕ) (entries : List Entry) (numbers : List ℕ) (refusal : PackRefusal)
    → AreArranged format entries numbers → IsRefusal (positions_of format ranges (table_of format entries numbers)) refusal
    → IsRefusalOf format ranges entries refusal
refused format ranges entries numbers Memory a is = tt
refused format ranges entries numbers (SizeLimit level count) a is = record { numbers = numbers; arranged = a; first = is }
