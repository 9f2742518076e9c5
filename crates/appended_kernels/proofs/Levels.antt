-- Level by level: the arrays of a result whose levels are ended store the rows of a table that names its heads.
use Rattle.std.specs.Prelude.{◌≡◌, ℕ, zero, suc, ◌+◌, ◌*◌, ◌≤◌, ◌<◌, Bool, true, false, List, [], ◌∷◌, ◌++◌, length, map, drop}
use Rattle.std.specs.Prelude.{replicate, slice_index, Some, refl}
use Rattle.std.specs.List.{range_with_len}
use Rattle.std.proofs.Common.{◌∙◌, sym, ap, subst, arith}
use Rattle.std.proofs.lemmas.List.FromFn.{length-map-range_with_len, get_or-map-range_with_len}
use Rattle.limits.specs.Limits.{greatest_position_count}
use Rattle.kernel_code.specs.Meaning.{State}
use Rattle.kernel_code.specs.declared.syntax.Arr.TheVariants.{Dimension}
use Rattle.level_core.specs.declared.letter.Letter.{Letter}
use Rattle.level_core.specs.declared.letter.Letter.TheVariants.{Dense}
use Rattle.level_core.specs.Entries.{one}
use Rattle.level_core.specs.Kinds.{properties, capabilities, positions_for}
use Rattle.level_core.specs.Laws.{HoldsFinished}
use Rattle.level_core.specs.Meaning.{Arrays}
use Rattle.level_core.proofs.KindLaws.{are_of_a_kind, appended_stored, full_is_dense, full_positions as positions_full}
use Rattle.level_core.proofs.Orders.{coord_position}
use Rattle.level_rows.specs.Rows.{Rows, begun, place, rows_at, MayAppendRows}
use Rattle.level_rows.specs.Filling.{AreNeeded, MayFill, FillsRows}
use Rattle.level_rows.specs.Tables.{Increase}
use Rattle.level_rows.specs.Taken.{Stores}
use Rattle.level_rows.proofs.AppendSteps.{may_finish}
use Rattle.level_rows.proofs.FullLaws.{full_position}
use Rattle.level_rows.proofs.Progress.{Filled}
use Rattle.level_rows.proofs.Stored.{filled_stores}
use Rattle.format_spec.specs.declared.format.FormatLevel.{FormatLevel}
use Rattle.format_spec.specs.Formats.{letters_of, IsFormat}
use Rattle.tensor_storage.specs.declared.level.StorageLevel.{StorageLevel}
use Rattle.tensor_storage.specs.Chains.{chain_length}
use Rattle.tensor_storage.specs.Laws.{laws, of_letter}
use Rattle.tensor_storage.specs.Levels.{meaning}
use Rattle.tensor_storage.specs.New.{IsNew}
use Rattle.tensor_storage.specs.Packed.{ArePacked}
use Rattle.tensor_storage.specs.Storages.{in_level_order}
use Rattle.tensor_storage.specs.Tables.{Table, AreBelow, begins_at, keys_of}
use Rattle.tensor_storage.proofs.Fills.{fills_level}
use Rattle.tensor_storage.proofs.PackSteps.{may_fill, none_packed, packed_next}
use Rattle.tensor_storage.proofs.Steps.{new_level, new_is, new_keeps}
use Rattle.kernel_correctness.specs.Results.{summed}
use Rattle.kernel_correctness.specs.Stores.{AreHeld}
use Rattle.result_assembly.proofs.Holding.{finished_summed, held_push}
use Rattle.level_appends.specs.Appended.{LevelFilled}
use Rattle.level_appends.proofs.Matched.{Matches}
use Rattle.level_appends.proofs.Refining.{refined_filled}
use Rattle.appended_results.specs.Heads.{letter_at, key_in}
use Rattle.appended_results.specs.Places.{through, place_above, positions_above, rows_above}
use Rattle.appended_results.specs.Levels.{MayHold}
use Rattle.appended_results.specs.Ends.{LevelEnds}
use Rattle.appended_results.proofs.HeadLaws.{letters_from}
use Rattle.appended_results.proofs.LevelSteps.{full_positions}
use Rattle.appended_results.proofs.SumLaws.{drop_step}
use Rattle.appended_kernels.proofs.Finer.{apart, place_of, full_spot, refines, place_headed, finer_place, finer_begun, headed_by}

same_some : (x y : ℕ) → Some x ≡ Some y → x ≡ y
same_some x y h = cc

-- a level of a kind that is full is a dense one, whose array has its range
full_held : (l : StorageLevel) (letter : Letter) (size level : ℕ) (arrays : Arrays) → (properties letter).full ≡ true
    → meaning.kind l ≡ letter → meaning.size l ≡ size → arrays (Dimension 0 level) ≡ Some (size ∷ [])
    → meaning.holds l 0 level (summed arrays)
full_held l letter size level arrays full kind sized held =
    let of = of_letter l Dense (kind ∙ full_is_dense letter full) in
    let same : of.inner ≡ size = ap meaning.size (sym of.is) ∙ sized in
    subst (λ m. meaning.holds m 0 level (summed arrays)) (sym of.is) (held ∙ ap (λ n. Some (n ∷ [])) (sym same))

-- a full level that stores rows has each where its parent and its coordinate tell
full_stands : (l : StorageLevel) (size parents positions : ℕ) (rows : Rows) (at : ℕ → ℕ) → (properties (meaning.kind l)).full ≡ true
    → meaning.size l ≡ size → Stores meaning parents positions rows at l
    → (i : ℕ) → i < rows.count → rows.parent i < parents → rows.coord i < size → at i ≡ rows.parent i * size + rows.coord i
full_stands l size parents positions rows at full sized stores i inside within below =
    let p = rows.parent i in
    let allowed = laws.parents l parents p stores.has_parents within in
    let are = laws.entries l (one p) allowed in
    let unique = (are_of_a_kind (meaning.kind l)).inserted_unique ((are_of_a_kind (meaning.kind l)).full_inserted full) in
    let stands = stores.stands.has (one p) i (allowed, omega (arith, within)) inside (omega arith, omega arith) in
    let position = coord_position (rows.coord i) (at i) (meaning.entries l (one p)) are.distinct (are.properties.unique unique) stands in
    let told = full_position meaning laws l size parents full sized stores.has_parents p (rows.coord i) within below in
    same_some (at i) (p * size + rows.coord i) (sym position ∙ told)

module _ (format : List FormatLevel) (ranges : List ℕ) (is : IsFormat format) (head : ℕ) (heads : List (List ℕ))
    (may : MayHold (letters_of format) (in_level_order format ranges) head heads)
    (few : (e : ℕ) → e ≤ length (letters_of format)
    → positions_above (letters_of format) (in_level_order format ranges) (key_in heads) (length heads) e ≤ greatest_position_count)
    (table : Table) (to : ℕ → ℕ) (matches : Matches head (key_in heads) (length heads) table.coords table.count to)
    (up : Increase table.coords (length format) table.count) (below : AreBelow table (in_level_order format ranges))
    (s : State)
    (ends : (e : ℕ) → e < length (letters_of format) → LevelEnds (letters_of format) (in_level_order format ranges) heads e s) where
  abbrev letters : List Letter
  letters = letters_of format

  abbrev sizes : List ℕ
  sizes = in_level_order format ranges

  abbrev parents : ℕ → ℕ
  parents d = positions_above (letters_of format) (in_level_order format ranges) (key_in heads) (length heads) d

  abbrev spot : ℕ → ℕ → ℕ
  spot d i = place_of (letters_of format) (in_level_order format ranges) (key_in heads) table.coords to d i

  -- the first d levels store the rows, each at its place
  pub record Packed (d : ℕ) : Type 0 where
    pub levels : List StorageLevel
    pub positions : List ℕ
    pub packed : ArePacked meaning (letters_of format) (in_level_order format ranges) table d levels positions
        (positions_above (letters_of format) (in_level_order format ranges) (key_in heads) (length heads) d)
    pub held : AreHeld levels 0 1 (summed s.arrays)
    pub at : (i : ℕ) → i < table.count
        → slice_index positions i ≡ place_of (letters_of format) (in_level_order format ranges) (key_in heads) table.coords to d i

  zeros : (n i : ℕ) → slice_index (replicate n 0) i ≡ 0
  zeros zero i = refl
  zeros (suc n) zero = refl
  zeros (suc n) (suc i) = zeros n i

  none : Packed 0
  none = record {
    levels = [];
    positions = replicate table.count 0;
    packed = none_packed meaning laws format (in_level_order format ranges) table [] (replicate table.count 0) is refl refl;
    held = tt;
    at = λ i h. zeros table.count i;
  }

  module _ (d : ℕ) (inside : d < length (letters_of format)) (b : Packed d) where
    abbrev letter : Letter
    letter = letter_at (letters_of format) d

    abbrev size : ℕ
    size = slice_index (in_level_order format ranges) d

    abbrev n : ℕ
    n = through (letters_of format) d

    abbrev old : StorageLevel
    old = new_level (letter_at (letters_of format) d) (slice_index (in_level_order format ranges) d)

    new : IsNew meaning (letter_at (letters_of format) d) (slice_index (in_level_order format ranges) d) old
    new = new_is (letter_at (letters_of format) d) (slice_index (in_level_order format ranges) d)

    abbrev rows : Rows
    rows = rows_at (keys_of table d (through (letters_of format) d)) b.positions

    sized : d < length (in_level_order format ranges)
    sized = let e = may.each in omega (arith, inside, e)

    small : size ≤ greatest_position_count
    small = may.small d 0 sized

    below_here : (i : ℕ) → i < table.count → table.coords d i < size
    below_here i h = below d i sized h

    left : drop d (letters_of format) ≡ meaning.kind old ∷ drop (suc d) (letters_of format)
    left = letters_from (letters_of format) d inside ∙ ap (λ k. k ∷ drop (suc d) (letters_of format)) (sym new.kind)

    through_is : through (letters_of format) d ≡ d + chain_length (meaning.kind old ∷ drop (suc d) (letters_of format))
    through_is =
        ap (λ ls. d + chain_length ls) (letters_from (letters_of format) d inside)
        ∙ ap (λ k. d + chain_length (k ∷ drop (suc d) (letters_of format))) (sym new.kind)

    sizes_left : drop d (in_level_order format ranges) ≡ size ∷ drop (suc d) (in_level_order format ranges)
    sizes_left = drop_step (in_level_order format ranges) d sized

    fill : MayFill meaning (parents d) rows old
    fill =
        may_fill meaning laws (letters_of format) (in_level_order format ranges) (length format) table up d n b.levels b.positions
        (parents d) size old (drop (suc d) (letters_of format)) b.packed left through_is below_here
        (subst (λ k. IsNew meaning k size old) (sym new.kind) new)

    -- one level more, of which these are the places
    next : (most : ℕ) → AreNeeded (meaning.kind old) (meaning.size old) (parents d) rows (parents (suc d)) most
        → (level : StorageLevel) (places : List ℕ) → FillsRows meaning (parents d) most rows places old level
        → meaning.holds level 0 (suc d) (summed s.arrays) → ((i : ℕ) → i < table.count → slice_index places i ≡ spot (suc d) i)
        → Packed (suc d)
    next most need level places fills held at = record {
      levels = b.levels ++ level ∷ [];
      positions = places;
      packed = packed_next meaning laws (letters_of format) (in_level_order format ranges) (length format) table up d n b.levels b.positions
          (parents d) size old (drop (suc d) (letters_of format)) b.packed left through_is below_here most (parents (suc d)) new.size_is
          need places level (few (suc d) (omega (arith, inside))) fills sizes_left refl;
      held = held_push b.levels 1 level (summed s.arrays) b.held
          (let same : suc d ≡ 1 + length b.levels = (let deep = b.packed.growing.depth in omega (arith, deep)) in
          subst (λ k. meaning.holds level 0 k (summed s.arrays)) same held);
      at = at;
    }

    -- ---- a level that isn't full
    module _ (sparse : (properties (letter_at (letters_of format) d)).full ≡ false) where
      headed : d < head
      headed = headed_by (letters_of format) (in_level_order format ranges) head heads may table to matches d inside sparse

      able : (capabilities (meaning.kind old)).append ≡ true
      able = ap (λ k. (capabilities k).append) new.kind ∙ may.appended d inside sparse

      above : (i : ℕ) → i < table.count
          → slice_index b.positions i ≡ place_above (letters_of format) (in_level_order format ranges) (key_in heads) d (to i)
      above i h =
          b.at i h
          ∙ place_headed (letters_of format) (in_level_order format ranges) head heads may table to matches d (omega (arith, headed)) i h

      level_filled : LevelFilled meaning letter size (suc d) (parents d)
          (rows_above (letters_of format) (in_level_order format ranges) (key_in heads) (length heads) d) s
      level_filled = (ends d inside).filled sparse

      abbrev given : StorageLevel
      given = level_filled.held.left

      all : Filled (parents d) rows (meaning.log given)
      all =
          subst (Filled (parents d) rows) (sym level_filled.held.log_is)
          (refined_filled (rows_above (letters_of format) (in_level_order format ranges) (key_in heads) (length heads) d) rows to
          (refines (letters_of format) (in_level_order format ranges) head heads may table to matches d headed (slice_index b.positions)
          above)
          (parents d) level_filled.log level_filled.filled)

      done : HoldsFinished meaning given (parents d) 0 (suc d) (summed s.arrays)
      done =
          finished_summed given (parents d) (suc d) s.arrays level_filled.held.keeps
          (may_finish (parents d) rows (meaning.log given) all) level_filled.held.held

      abbrev places : List ℕ
      places = map (place (begins_at table.coords (through (letters_of format) d))) (range_with_len 0 table.count)

      numbered : (i : ℕ) → i < table.count → slice_index places i ≡ place (begins_at table.coords (through (letters_of format) d)) i
      numbered i h =
          get_or-map-range_with_len (place (begins_at table.coords (through (letters_of format) d))) 0 table.count i i 0 h (omega arith)

      may_append : MayAppendRows letter size (parents d) rows
      may_append =
          subst (λ m. MayAppendRows letter m (parents d) rows) new.size_is
          (subst (λ k. MayAppendRows k (meaning.size old) (parents d) rows) new.kind (fill.appends able).0)

      counted : parents (suc d) ≡ begun (begins_at table.coords (through (letters_of format) d)) table.count
      counted =
          sym (finer_begun (letters_of format) (in_level_order format ranges) head heads may table to matches d headed
          (slice_index b.positions) above sparse)

      need : AreNeeded (meaning.kind old) (meaning.size old) (parents d) rows (parents (suc d)) (parents (suc d))
      need = record {
        appended = λ _. (counted, refl);
        inserted = λ no. apart (sym able ∙ no);
        greatest = λ no stored. apart (sym able ∙ no);
        full = λ full. apart (sym full ∙ appended_stored (meaning.kind old) able);
      }

      fills : FillsRows meaning (parents d) (parents (suc d)) rows places old done.done
      fills = record {
        appended = λ _. record {
          takes = record {
            keeps = done.finishes.keeps;
            kind = done.finishes.kind ∙ level_filled.held.kind ∙ sym new.kind;
            size = done.finishes.size ∙ level_filled.held.size_is ∙ sym new.size_is;
            many = length-map-range_with_len (place (begins_at table.coords (through (letters_of format) d))) 0 table.count;
            stored = filled_stores meaning laws letter size (parents d) rows (slice_index places) given done.done may_append
                level_filled.held.kind all done.finishes numbered;
          };
          numbered = numbered;
        };
        inserted = λ no. apart (sym able ∙ no);
      }

      next_sparse : Packed (suc d)
      next_sparse =
          next (parents (suc d)) need done.done places fills done.held
          (λ i h. numbered i h
          ∙ finer_place (letters_of format) (in_level_order format ranges) head heads may table to matches d headed
          (slice_index b.positions) above sparse i h)

    -- ---- a full level
    module _ (full : (properties (letter_at (letters_of format) d)).full ≡ true) where
      old_full : (properties (meaning.kind old)).full ≡ true
      old_full = ap (λ k. (properties k).full) new.kind ∙ full

      never : (capabilities (meaning.kind old)).append ≡ false
      never = by_append (capabilities (meaning.kind old)).append refl
        where
          by_append : (c : Bool) → (capabilities (meaning.kind old)).append ≡ c → (capabilities (meaning.kind old)).append ≡ false
          by_append true is = apart (sym old_full ∙ appended_stored (meaning.kind old) is)
          by_append false is = is

      product : parents (suc d) ≡ parents d * size
      product = full_positions (letters_of format) (in_level_order format ranges) (key_in heads) (length heads) d full

      as_many : parents (suc d) ≡ positions_for (meaning.kind old) (meaning.size old) (parents d) 0
      as_many =
          product ∙ ap (λ m. parents d * m) (sym new.size_is)
          ∙ sym (positions_full (meaning.kind old) (meaning.size old) (parents d) 0 old_full)

      full_need : AreNeeded (meaning.kind old) (meaning.size old) (parents d) rows (parents (suc d)) 0
      full_need = record {
        appended = λ yes. apart (sym yes ∙ never);
        inserted = λ _. as_many;
        greatest = λ _ sparse. apart (sym old_full ∙ sparse);
        full = λ _. refl;
      }

      next_full : Packed (suc d)
      next_full =
          let f = fills_level (parents d) (parents (suc d)) 0 (keys_of table d n) b.positions old (new_keeps letter size small)
          (subst (λ m. m ≤ greatest_position_count) (sym new.size_is) small) (few d (omega (arith, inside))) b.packed.many fill full_need
          (few (suc d) (omega (arith, inside))) in
          let t = (f.fills.inserted never).takes in
          let kind = t.kind ∙ new.kind in
          let sized_as = t.size ∙ new.size_is in
          next 0 full_need f.level f.places f.fills
          (full_held f.level letter size (suc d) s.arrays full kind sized_as ((ends d inside).size full))
          (λ i h. full_stands f.level size (parents d) (positions_for (meaning.kind old) (meaning.size old) (parents d) 0) rows
          (slice_index f.places) (ap (λ k. (properties k).full) kind ∙ full) sized_as t.stored i h (b.packed.growing.share.within i h)
          (below_here i h)
          ∙ ap (λ p. p * size + table.coords d i) (b.at i h)
          ∙ sym (full_spot (letters_of format) (in_level_order format ranges) (key_in heads) table.coords to d i full))

    one_more : (f : Bool) → (properties (letter_at (letters_of format) d)).full ≡ f → Packed (suc d)
    one_more true full = next_full full
    one_more false sparse = next_sparse sparse

  packed_to : (d : ℕ) → d ≤ length (letters_of format) → Packed d
  packed_to zero h = none
  packed_to (suc d) h =
      one_more d (omega (arith, h)) (packed_to d (omega (arith, h))) (properties (letter_at (letters_of format) d)).full refl

  -- all levels do
  pub all_packed : Packed (length (letters_of format))
  all_packed = packed_to (length (letters_of format)) (omega arith)
