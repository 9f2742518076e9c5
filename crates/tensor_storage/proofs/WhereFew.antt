-- Levels are packed one below another, as long as their positions are few.
use Rattle.std.specs.Prelude.{◌≡◌, ◌≢◌, ◌⊎◌, ℕ, zero, suc, ◌+◌, ◌≤◌, ◌<◌}
use Rattle.std.specs.Prelude.{List, [], ◌∷◌, ◌++◌, length, drop, replicate, slice_index, slice_set}
use Rattle.std.specs.Prelude.{All, refl}
use Rattle.std.proofs.Common.{sym, subst, arith, inl, inr, get_or, add-one}
use Rattle.std.proofs.Math.Seq.{get_or-append_seam}
use Rattle.std.proofs.lemmas.Bool.{cases_lt}
use Rattle.std.proofs.lemmas.List.{length-replicate}
use Rattle.limits.specs.Limits.{greatest_position_count}
use Rattle.limits.proofs.Limits.{some_positions}
use Rattle.level_core.specs.declared.letter.Letter.{Letter}
use Rattle.level_core.specs.declared.letter.Letter.TheVariants.{Dense}
use Rattle.level_rows.specs.Rows.{rows_at}
use Rattle.level_rows.specs.Filling.{AreNeeded, MayFill}
use Rattle.level_rows.specs.Tables.{Increase}
use Rattle.level_rows.specs.Values.{StoresValues}
use Rattle.level_rows.proofs.ValueLaws.{none_stored, one_stored}
use Rattle.format_spec.specs.declared.format.FormatLevel.{FormatLevel}
use Rattle.format_spec.specs.Formats.{letters_of, IsFormat}
use Rattle.tensor_storage.specs.Chains.{chain_length}
use Rattle.tensor_storage.specs.Counts.{positions_of, AreFew}
use Rattle.tensor_storage.specs.declared.level.StorageLevel.{StorageLevel}
use Rattle.tensor_storage.specs.Levels.{meaning}
use Rattle.tensor_storage.specs.Laws.{laws}
use Rattle.tensor_storage.specs.New.{IsNew}
use Rattle.tensor_storage.specs.Packed.{ArePacked, IsFirstAbove}
use Rattle.tensor_storage.specs.Storages.{storage_of, in_level_order}
use Rattle.tensor_storage.specs.Tables.{Table, AreBelow, keys_of}
use Rattle.tensor_storage.proofs.PackSteps.{none_packed, fill_may, fill_next, refused_here}
use Rattle.tensor_storage.proofs.Paths.{mode_below}
use Rattle.tensor_storage.proofs.Standing.{pack_done, distinct_places}
use Rattle.tensor_storage.specs.Standing.{StandsWhereFew}
use Rattle.tensor_storage.proofs.Steps.{new_level, new_is, new_keeps}
use Rattle.tensor_storage.proofs.Fills.{fills_level}
use Rattle.tensor_storage.proofs.Greatest.{needs}

-- a number in a list
in_middle : (xs ys : List ℕ) (y : ℕ) → length xs < length (xs ++ y ∷ ys)
in_middle [] ys y = omega arith
in_middle (x ∷ xs) ys y = let k = in_middle xs ys y in omega (arith, k)

-- no first level has more positions than may be where none has
never_first : (counts : List ℕ) (level count : ℕ) → AreFew counts → IsFirstAbove counts level count → ⊥
never_first counts level count few first =
    let long = in_middle first.above first.below count in
    let each : AreFew (first.above ++ count ∷ first.below) = subst AreFew first.all few in
    let here = each (length first.above) 0 long in
    let seam = get_or-append_seam first.above count first.below 0 in
    let passes = first.passes in
    omega (arith, here, seam, passes)

none : FormatLevel
none = record { letter = Dense; mode = 0 }

module _ (format : List FormatLevel) (ranges : List ℕ) (table : Table) (is : IsFormat format) (long : length ranges ≡ length format)
    (small : All (λ range. range ≤ greatest_position_count) ranges) (up : Increase table.coords (length format) table.count)
    (below : AreBelow table (in_level_order format ranges)) (few : AreFew (positions_of format ranges table)) where
  -- so many levels are packed
  record Part (d : ℕ) : Type 0 where
    levels : List StorageLevel
    places : List ℕ
    positions : ℕ
    packed : ArePacked meaning (letters_of format) (in_level_order format ranges) table d levels places positions
    within : positions ≤ greatest_position_count

  module _ (d : ℕ) (h : d < length format) (p : Part d) where
    abbrev letter_here : Letter
    letter_here = (get_or format d none).letter

    abbrev size_here : ℕ
    size_here = slice_index ranges (get_or format d none).mode

    size_small : size_here ≤ greatest_position_count
    size_small = let m = mode_below format is d none h in small (get_or format d none).mode 0 (omega (arith, long, m))

    abbrev through : ℕ
    through = d + chain_length (drop d (letters_of format))

    abbrev old : StorageLevel
    old = new_level letter_here size_here

    old_is : IsNew meaning letter_here size_here old
    old_is = new_is letter_here size_here

    old_size : meaning.size old ≤ greatest_position_count
    old_size = subst (λ n. n ≤ greatest_position_count) (sym old_is.size_is) size_small

    may : MayFill meaning p.positions (rows_at (keys_of table d through) p.places) old
    may = fill_may meaning laws format ranges table up below d none h p.levels p.places p.positions p.packed old through old_is refl

    next_level : (needed most : ℕ)
        → AreNeeded (meaning.kind old) (meaning.size old) p.positions (rows_at (keys_of table d through) p.places) needed most
        → needed ≤ greatest_position_count → Part (d + 1)
    next_level needed most need fits =
        let f = fills_level p.positions needed most (keys_of table d through) p.places old (new_keeps letter_here size_here size_small)
        old_size p.within p.packed.many may need fits in
        let n = fill_next meaning laws format ranges table up below d none h p.levels p.places p.positions p.packed old through old_is refl
        f.places f.level needed (p.levels ++ f.level ∷ []) refl (needed, most, need, (fits, refl, f.fills)) in
        record { levels = p.levels ++ f.level ∷ []; places = f.places; positions = needed; packed = n.0; within = n.1 }

    packs_next : Part (d + 1)
    packs_next = by_order (cases_lt greatest_position_count need.0)
      where
        need : (needed : ℕ) × (most : ℕ)
            × AreNeeded (meaning.kind old) (meaning.size old) p.positions (rows_at (keys_of table d through) p.places) needed most
        need = needs (rows_at (keys_of table d through) p.places) (meaning.kind old) (meaning.size old) p.positions

        by_order : (greatest_position_count < need.0) ⊎ (need.0 ≤ greatest_position_count) → Part (d + 1)
        by_order (inr fits) = next_level need.0 need.1 need.2 fits
        by_order (inl more) = absurd (never_first (positions_of format ranges table) (d + 1) need.0 few
            (refused_here meaning laws format ranges table up below d none h p.levels p.places p.positions p.packed old through old_is refl
            p.places old need.0 (need.0, need.1, need.2, (more, refl, refl, refl))))

  packs_to : (d : ℕ) → d ≤ length format → Part d
  packs_to zero h = record {
    levels = [];
    places = replicate table.count 0;
    positions = 1;
    packed = none_packed meaning laws format (in_level_order format ranges) table [] (replicate table.count 0) is refl refl;
    within = omega (arith, some_positions);
  }
  packs_to (suc d) h = subst Part (add-one d) (packs_next d (omega (arith, h)) (packs_to d (omega (arith, h))))

-- the values of rows at their places
record Valued (n : ℕ) (place value : ℕ → ℕ) (before : List ℕ) : Type 0 where
  values : List ℕ
  stored : StoresValues n place value before values

stores_to : (n count : ℕ) (place value : ℕ → ℕ) (before : List ℕ) → ((i j : ℕ) → i < j → j < count → place i ≢ place j)
    → ((i : ℕ) → i < count → place i < length before) → n ≤ count → Valued n place value before
stores_to zero count place value before apart within h = record { values = before; stored = none_stored place value before }
stores_to (suc n) count place value before apart within h =
    let v = stores_to n count place value before apart within (omega (arith, h)) in
    let less : n < count = omega (arith, h) in
    record {
      values = slice_set v.values (place n) (value n);
      stored = subst (λ m. StoresValues m place value before (slice_set v.values (place n) (value n))) (add-one n)
          (one_stored n count place value before v.values apart less (within n less) v.stored);
    }

pub stands_where_few : StandsWhereFew
stands_where_few filler format ranges table is long small up below few =
    let p = packs_to format ranges table is long small up below few (length format) (omega arith) in
    let before : List ℕ = replicate p.positions filler in
    let many : length before ≡ p.positions = length-replicate p.positions filler in
    let v = stores_to table.count table.count (slice_index p.places) table.values before
    (distinct_places format ranges table p.levels p.places p.places p.positions up p.packed refl)
    (λ i h. let w = p.packed.growing.share.within i h in omega (arith, w, many)) (omega arith) in
    let d = pack_done filler format ranges table p.levels p.places p.places p.positions before v.values v.values is up p.packed refl refl
    v.stored refl in
    record { storage = storage_of format p.levels v.values; packed = d.0; whole = d.1 }
