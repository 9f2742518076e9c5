-- One level more is drained: what is known before its code, and what follows of what the code leaves.
use Rattle.std.specs.Prelude.{◌≡◌, ◌≢◌, ℕ, suc, ◌+◌, ◌≤◌, ◌<◌, ◌^◌, List, [], ◌∷◌, ◌++◌, length, drop, slice_index, Some, refl}
use Rattle.std.proofs.Common.{◌∙◌, sym, ap, subst, arith}
use Rattle.std.proofs.lemmas.List.{length-map}
use Rattle.limits.specs.Limits.{greatest_position_count}
use Rattle.limits.proofs.Limits.{positions_are_small, workspace_pairs_are_positions}
use Rattle.kernel_code.specs.Meaning.{State, value}
use Rattle.kernel_code.specs.declared.syntax.Arr.{Arr}
use Rattle.kernel_code.specs.declared.syntax.Arr.TheVariants.{Values, Key, Sums, ListPositions}
use Rattle.kernel_code.specs.declared.syntax.KExpr.{KExpr, Var, At}
use Rattle.level_core.specs.declared.letter.Letter.{Letter}
use Rattle.level_core.specs.Fragments.{IsOf}
use Rattle.level_core.specs.Laws.{HoldsStart}
use Rattle.level_rows.specs.Rows.{Rows, rows_at}
use Rattle.level_rows.specs.Draining.{Stays, TellsFirst, TellsCoord}
use Rattle.level_rows.specs.Filling.{AreNeeded, MayFill, FillsRows}
use Rattle.tensor_storage.specs.Built.{counts_of}
use Rattle.tensor_storage.specs.Chains.{chain_length}
use Rattle.tensor_storage.specs.Counts.{positions_from}
use Rattle.tensor_storage.specs.declared.level.StorageLevel.{StorageLevel}
use Rattle.tensor_storage.specs.Laws.{laws}
use Rattle.tensor_storage.specs.Levels.{meaning}
use Rattle.tensor_storage.specs.New.{IsNew}
use Rattle.tensor_storage.specs.Packed.{ArePacked}
use Rattle.tensor_storage.specs.Tables.{Table, keys_of}
use Rattle.tensor_storage.proofs.PackSteps.{may_fill, left_from, packed_next}
use Rattle.format_spec.specs.Formats.{Chained}
use Rattle.kernel_correctness.specs.Results.{summed}
use Rattle.kernel_correctness.specs.Stores.{AreHeld, StartsBelow}
use Rattle.level_core.specs.Kinds.{parents_below}
use Rattle.result_assembly.specs.Drained.{HasWords, HoldsTable, MayDrain, AreDrained}
use Rattle.result_assembly.specs.Tests.{begins_test}
use Rattle.result_assembly.proofs.Holding.{stays_other, held_along, held_push, starts_kept, begun_level}
use Rattle.tensor_storage.proofs.Steps.{new_level, new_is}
use Rattle.result_assembly.proofs.Lists.{drop_is, drop_rest, left_long, slice_at, chain_within, as_many_columns}
use Rattle.result_assembly.proofs.Telling.{tells_first, tells_coord}

-- the level that stands below d others, in whose chain rows begin positions by their first n coordinates
module _ (letters rest : List Letter) (letter : Letter) (w g d n : ℕ) (count : KExpr) (left : drop d letters ≡ letter ∷ rest)
    (through : n ≡ d + chain_length (letter ∷ rest)) (nothing : ℕ) (sizes : List ℕ) (table : Table) (may : MayDrain letters sizes table)
    (s : State) (dr : AreDrained nothing letters sizes table w g d count s) where
  inside : d < length letters
  inside = (drop_rest letters d letter rest left).0

  rest_is : rest ≡ drop (suc d) letters
  rest_is = (drop_rest letters d letter rest left).1

  sized : d < length sizes
  sized = let i = inside in let e = may.each in omega (arith, i, e)

  abbrev pub size_here : ℕ
  size_here = slice_index sizes d

  sizes_left : drop d sizes ≡ size_here ∷ drop (suc d) sizes
  sizes_left = drop_is sizes d sized

  pub small : size_here ≤ greatest_position_count
  small = may.small d 0 sized

  below_here : (i : ℕ) → i < table.count → table.coords d i < size_here
  below_here i h = may.below d i sized h

  abbrev pub rows_here : Rows
  rows_here = rows_at (keys_of table d n) dr.positions

  pub few_rows : table.count ≤ greatest_position_count
  few_rows = let f = may.few in let e = workspace_pairs_are_positions in omega (arith, f, e)

  pub few_words : table.count < 2 ^ 63
  few_words = let f = few_rows in let l = positions_are_small in omega (arith, f, l)

  pub starts_here : StartsBelow nothing (letter ∷ rest) (size_here ∷ drop (suc d) sizes) dr.starts (suc d) s.arrays
  starts_here =
      subst (λ ks. StartsBelow nothing ks (size_here ∷ drop (suc d) sizes) dr.starts (suc d) s.arrays) left
      (subst (λ ns. StartsBelow nothing (drop d letters) ns dr.starts (suc d) s.arrays) sizes_left dr.below)

  -- the arrays hold a level as a kernel begins it
  pub begun_here : HoldsStart meaning letter size_here dr.starts 0 (suc d) s.arrays
  begun_here =
      let b = dr.begun in let f = dr.few in
      begun_level letter size_here dr.starts (suc d) s.arrays small (omega (arith, b, f)) starts_here.0

  left_as : (old : StorageLevel) → meaning.kind old ≡ letter → drop d letters ≡ meaning.kind old ∷ rest
  left_as old kind = left ∙ ap (λ k. k ∷ rest) (sym kind)

  through_as : (old : StorageLevel) → meaning.kind old ≡ letter → n ≡ d + chain_length (meaning.kind old ∷ rest)
  through_as old kind = through ∙ ap (λ k. d + chain_length (k ∷ rest)) (sym kind)

  -- the level may be given the rows
  pub fill_here : MayFill meaning dr.parents rows_here (new_level letter size_here)
  fill_here =
      let new = new_is letter size_here in
      may_fill meaning laws letters sizes (length letters) table may.order d n dr.levels dr.positions dr.parents size_here
      (new_level letter size_here) rest dr.packed (left_as (new_level letter size_here) new.kind)
      (through_as (new_level letter size_here) new.kind)
      below_here (subst (λ k. IsNew meaning k size_here (new_level letter size_here)) (sym new.kind) new)

  n_within : n ≤ length letters
  n_within =
      let c = chain_within dr.packed.groups letter rest (subst (Chained dr.packed.groups) left dr.packed.chained) in
      let long = ap length rest_is in
      let whole = left_long letters d inside in
      omega (arith, c, through, long, whole)

  pub keys_here : (k : ℕ) → k < n → HasWords (Key w k) table.count (table.coords k) s.arrays
  keys_here k less = let some = n_within in dr.rows.key k (omega (arith, less, some))

  pub first_told : (base : ℕ) → TellsFirst base (suc d) g (begins_test base w n) rows_here s
  first_told base = tells_first base (suc d) g w d n table dr.positions s few_words keys_here

  pub coord_told : (base : ℕ) → TellsCoord base (suc d) g (At (Key w d) (Var base)) rows_here s
  coord_told base = tells_coord base (suc d) g w d n table dr.positions s (dr.rows.key d inside)

  module _ (old : StorageLevel) (kind : meaning.kind old ≡ letter) (kept : meaning.size old ≡ size_here) (most needed : ℕ)
      (need : AreNeeded (meaning.kind old) (meaning.size old) dr.parents rows_here needed most) where
    -- the rows tell so many positions for the level
    pub told_here : slice_index (positions_from table 0 1 letters sizes) d ≡ needed
    told_here =
        ap (λ ns. slice_index ns d)
        (sym dr.packed.counts
        ∙ ap (λ ns. counts_of dr.packed.columns ++ ns)
        (left_from meaning laws letters sizes (length letters) table may.order d n dr.levels dr.positions dr.parents size_here old rest
        dr.packed (left_as old kind) (through_as old kind) below_here most needed kept need sizes_left rest_is))
        ∙ slice_at (counts_of dr.packed.columns) _ needed d counts_long
      where
        counts_long : length (counts_of dr.packed.columns) ≡ d
        counts_long = length-map dr.packed.columns (λ column. column.positions)
            ∙ as_many_columns meaning table letters dr.levels dr.packed.columns 0 (λ i. 0) 1 dr.packed.built
            ∙ dr.packed.growing.depth

    -- one level more is packed
    pub packed_here : (places : List ℕ) (new : StorageLevel) → needed ≤ greatest_position_count
        → FillsRows meaning dr.parents most rows_here places old new
        → ArePacked meaning letters sizes table (suc d) (dr.levels ++ new ∷ []) places needed
    packed_here places new fits fills =
        packed_next meaning laws letters sizes (length letters) table may.order d n dr.levels dr.positions dr.parents size_here old rest
        dr.packed (left_as old kind) (through_as old kind) below_here most needed kept need places new fits fills sizes_left rest_is

  module _ (t : State) (same : (a : Arr) → Stays (suc d) g a → t.arrays a ≡ s.arrays a) where
    other : (j : ℕ) (x : Arr) → j ≢ suc d → IsOf 0 j x → t.arrays x ≡ s.arrays x
    other j x away of = same x (stays_other x j (suc d) g away of)

    pub rows_kept : HoldsTable w (length letters) table t.arrays
    rows_kept = record { key = λ k less. moved k (dr.rows.key k less); sums = sums_moved dr.rows.sums }
      where
        moved : (k : ℕ) → HasWords (Key w k) table.count (table.coords k) s.arrays
            → HasWords (Key w k) table.count (table.coords k) t.arrays
        moved k h = record { words = h.words; held = same (Key w k) (λ of. of, refl) ∙ h.held; many = h.many; are = h.are }

        sums_moved : HasWords (Sums w) table.count table.values s.arrays → HasWords (Sums w) table.count table.values t.arrays
        sums_moved h = record { words = h.words; held = same (Sums w) (λ of. of, refl) ∙ h.held; many = h.many; are = h.are }

    -- all that is known of the levels so far
    pub drained_here : (new : StorageLevel) (places : List ℕ) (needed : ℕ) (told : KExpr)
        → ArePacked meaning letters sizes table (suc d) (dr.levels ++ new ∷ []) places needed → needed ≤ greatest_position_count
        → value told t ≡ Some needed → meaning.holds new 0 (suc d) (summed t.arrays) → t.arrays (ListPositions g) ≡ Some places
        → parents_below letter size_here dr.starts ≤ needed
        → AreDrained nothing letters sizes table w g (suc d) told t
    drained_here new places needed told packed few is held places_are begun = record {
      levels = dr.levels ++ new ∷ [];
      positions = places;
      parents = needed;
      packed = packed;
      few = few;
      told = is;
      held = held_push dr.levels 1 new (summed t.arrays) above
          (let same_level : suc d ≡ 1 + length dr.levels = (let deep = dr.packed.growing.depth in omega (arith, deep)) in
          subst (λ k. meaning.holds new 0 k (summed t.arrays)) same_level held);
      places = places_are;
      rows = rows_kept;
      starts = parents_below letter size_here dr.starts;
      begun = begun;
      below = subst (λ ks. StartsBelow nothing ks (drop (suc d) sizes) (parents_below letter size_here dr.starts) (suc (suc d)) t.arrays)
          rest_is
          (starts_kept nothing rest (drop (suc d) sizes) (parents_below letter size_here dr.starts) (suc (suc d)) s.arrays t.arrays
          (λ j x from of. other j x (λ e. absurd (omega (arith, e, from))) of) (same (Values 0) (λ of. of, refl)) starts_here.1);
      values = same (Values 0) (λ of. of, refl) ∙ dr.values;
    }
      where
        above : AreHeld dr.levels 0 1 (summed t.arrays)
        above =
            let deep = dr.packed.growing.depth in
            held_along dr.levels 1 (suc d) s.arrays t.arrays (omega (arith, deep))
            (λ j x less of. other j x (λ e. absurd (omega (arith, e, less))) of) dr.held
