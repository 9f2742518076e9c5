-- Coordinates in the order of the levels are those of some coordinates in the order of the modes.
use Rattle.std.specs.Prelude.{◌≡◌, ℕ, zero, suc, ◌+◌, ◌<◌, ◌≤◌, List, [], ◌∷◌, length, All, slice_index, slice_index_or, refl}
use Rattle.std.proofs.Common.{◌∙◌, sym, ap, subst, arith}
use Rattle.std.proofs.lemmas.List.{length-map, get_or-map}
use Rattle.format_spec.specs.declared.format.FormatLevel.{FormatLevel}
use Rattle.format_spec.specs.Formats.{modes_of, IsFormat}
use Rattle.format_spec.proofs.Pigeonholes.{each_mode_stands}
use Rattle.tensor_storage.specs.Routes.{in_mode_order, AreLevelsOf}
use Rattle.tensor_storage.proofs.ListLaws.{level_order_back}
use Rattle.tensor_storage.specs.Storages.{in_level_order}
use Rattle.tns_io.specs.Positions.{IsBelow}
use Rattle.tns_io.proofs.PositionLaws.{below_long}
use Rattle.dense_results.proofs.Modes.{level_numbers}
use Rattle.dense_results.proofs.Positions.{below_at, below_from}

-- so many numbers, each of which is such
record AreChosen (P : ℕ → ℕ → Type 0) (from count : ℕ) : Type 0 where
  items : List ℕ
  many : length items ≡ count
  each : (j : ℕ) → j < count → P (from + j) (slice_index items j)

choose : (P : ℕ → ℕ → Type 0) (n : ℕ) → ((m : ℕ) → m < n → (k : ℕ) × P m k) → (count from : ℕ) → from + count ≤ n
    → AreChosen P from count
choose P n f zero from h = record { items = []; many = refl; each = λ j l. absurd (omega (arith, l)) }
choose P n f (suc count) from h =
    let first = f from (omega (arith, h)) in
    let rest = choose P n f count (from + 1) (omega (arith, h)) in
    record {
      items = first.0 ∷ rest.items;
      many = let m = rest.many in omega (arith, m);
      each = λ j l. by first.0 first.1 rest.items rest.each j l;
    }
  where
    by : (k : ℕ) → P from k → (items : List ℕ) → ((j : ℕ) → j < count → P (from + 1 + j) (slice_index items j))
        → (j : ℕ) → j < suc count → P (from + j) (slice_index (k ∷ items) j)
    by k p items each zero l = subst (λ m. P m k) (omega arith) p
    by k p items each (suc j) l = subst (λ m. P m (slice_index items j)) (omega arith) (each j (omega (arith, l)))

-- no matter what would stand behind the end
same_default : (xs : List ℕ) (k d : ℕ) → k < length xs → slice_index xs k ≡ slice_index_or xs k d
same_default [] k d h = absurd (omega (arith, h))
same_default (x ∷ xs) zero d h = refl
same_default (x ∷ xs) (suc k) d h = same_default xs k d (omega (arith, h))

abbrev IsLevelOf : List ℕ → ℕ → ℕ → Type 0
IsLevelOf modes m k = (k < length modes) × (slice_index modes k ≡ m)

levels_of : (format : List FormatLevel) → IsFormat format → (places : List ℕ) × AreLevelsOf (modes_of format) places
levels_of format is =
    let c = choose (IsLevelOf (modes_of format)) (length (modes_of format)) stands (length (modes_of format)) 0 (omega arith) in
    (c.items, record { many = c.many; within = within c; modes_are = modes_are c })
  where
    many : length (modes_of format) ≡ length format
    many = is.order.count

    stands : (m : ℕ) → m < length (modes_of format) → (k : ℕ) × IsLevelOf (modes_of format) m k
    stands m h =
        let s = each_mode_stands (length format) (modes_of format) m is.order (omega (arith, h, many)) in
        let b = s.1 in
        (s.0, (omega (arith, b, many), s.2))

    within : (c : AreChosen (IsLevelOf (modes_of format)) 0 (length (modes_of format))) → All (λ k. k < length (modes_of format)) c.items
    within c k d h =
        let long = c.many in
        let e = c.each k (omega (arith, h, long)) in
        subst (λ n. n < length (modes_of format)) (same_default c.items k d h) e.0

    modes_are : (c : AreChosen (IsLevelOf (modes_of format)) 0 (length (modes_of format))) (m : ℕ) → m < length (modes_of format)
        → slice_index (modes_of format) (slice_index c.items m) ≡ m
    modes_are c m h = (c.each m h).1 ∙ omega arith

pub record IsBack (format : List FormatLevel) (ranges xs : List ℕ) : Type 0 where
  pub coords : List ℕ
  pub is : in_level_order format coords ≡ xs
  pub below : IsBelow ranges coords

pub back : (format : List FormatLevel) (ranges xs : List ℕ) → IsFormat format → length ranges ≡ length format
    → IsBelow (in_level_order format ranges) xs → IsBack format ranges xs
back format ranges xs is long below =
    let levels = levels_of format is in
    record {
      coords = in_mode_order levels.0 xs;
      is = level_order_back format levels.0 is levels.1 xs xs_long;
      below = below_from ranges (in_mode_order levels.0 xs)
          (length-map levels.0 (λ place. slice_index xs place) ∙ levels.1.many ∙ is.order.count ∙ sym long)
          (λ m h. at levels.0 levels.1 m (omega (arith, h, long)));
    }
  where
    xs_long : length xs ≡ length format
    xs_long = below_long (in_level_order format ranges) xs below ∙ length-map format (λ level. slice_index ranges level.mode)

    at : (places : List ℕ) → AreLevelsOf (modes_of format) places → (m : ℕ) → m < length format
        → slice_index (in_mode_order places xs) m < slice_index ranges m
    at places are m h =
        let many = are.many in
        let count : length (modes_of format) ≡ length format = is.order.count in
        let level : ℕ = slice_index places m in
        let inside : level < length (modes_of format) = are.within m 0 (omega (arith, h, many, count)) in
        let sizes_long : length (in_level_order format ranges) ≡ length format =
        length-map format (λ l. slice_index ranges l.mode) in
        let coord : slice_index (in_mode_order places xs) m ≡ slice_index xs level =
        get_or-map (slice_index xs) places m 0 0 (omega (arith, h, many, count)) in
        let size : slice_index (in_level_order format ranges) level ≡ slice_index ranges m =
        ap (λ ns. slice_index ns level) (sym (level_numbers format ranges))
        ∙ get_or-map (slice_index ranges) (modes_of format) level 0 0 inside
        ∙ ap (slice_index ranges) (are.modes_are m (omega (arith, h, count))) in
        let less : slice_index xs level < slice_index (in_level_order format ranges) level =
        below_at (in_level_order format ranges) xs level below (omega (arith, inside, count, sizes_long)) in
        omega (arith, coord, size, less)
