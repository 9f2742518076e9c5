-- The code of a level whose coordinates are counted: the greatest number of positions below one parent is found first.
use Rattle.std.specs.Prelude.{◌≡◌, ℕ, suc, ◌+◌, ◌*◌, ◌≤◌, ◌<◌, List, [], ◌∷◌, ◌++◌, length, drop, slice_index, Some, refl}
use Rattle.std.proofs.Common.{◌∙◌, sym, ap, subst, arith}
use Rattle.std.proofs.Math.Path.{fun_ext}
use Rattle.limits.specs.Limits.{greatest_position_count}
use Rattle.limits.proofs.Limits.{positions_are_small}
use Rattle.kernel_code.specs.Does.{Does}
use Rattle.kernel_code.proofs.Does.{does_weaker, does_append, does_set}
use Rattle.kernel_code.specs.Keeps.{Below, EveryArray}
use Rattle.kernel_code.proofs.Keeps.{this_var, other_var, value_kept}
use Rattle.kernel_code.proofs.Equations.{value_width}
use Rattle.kernel_code.proofs.Widths.{width_is_slot_width}
use Rattle.kernel_code.specs.Meaning.{Setting, State, value, width_of, set_var}
use Rattle.kernel_code.specs.Widths.{slot_width}
use Rattle.kernel_code.specs.declared.syntax.Arr.TheVariants.{Values, Key, ListPositions}
use Rattle.kernel_code.specs.declared.syntax.KExpr.{KExpr, Var, At, Width}
use Rattle.kernel_code.specs.declared.syntax.KStmt.{KStmt, Set}
use Rattle.level_core.specs.declared.letter.Letter.{Letter}
use Rattle.level_core.specs.Kinds.{capabilities, positions_for}
use Rattle.level_core.specs.Meaning.{Arrays}
use Rattle.level_core.specs.GuardedProducts.{guarded_product, StandsForProduct}
use Rattle.level_core.proofs.GuardedProducts.{guarded_told, widths_are_factors}
use Rattle.level_core.proofs.KindLaws.{stored_positions}
use Rattle.level_rows.specs.Rows.{Rows}
use Rattle.level_rows.specs.Counting.{MayCount, LeavesGreatest, FindsGreatest}
use Rattle.level_rows.specs.Placing.{PlacesRows, probes_each}
use Rattle.tensor_storage.specs.Chains.{chain_length}
use Rattle.tensor_storage.specs.Levels.{meaning}
use Rattle.tensor_storage.specs.Tables.{Table}
use Rattle.tensor_storage.proofs.Steps.{new_is}
use Rattle.tensor_storage.proofs.Tables.{apart}
use Rattle.kernel_correctness.specs.Results.{summed}
use Rattle.kernel_correctness.specs.Stores.{AreHeld, StartsBelow}
use Rattle.result_assembly.specs.Drained.{passes_at, IsCounted, HoldsTable, MayDrain, AreDrained, LeavesLevel, RefusesLevel}
use Rattle.result_assembly.specs.Tests.{begins_test}
use Rattle.result_assembly.proofs.Inserted.{greatest_few, inserted}
use Rattle.result_assembly.proofs.KindLaws.{counted_never, counted_unordered, each_within}
use Rattle.result_assembly.proofs.Steps.{rows_here, few_rows, few_words, fill_here, first_told}
use Rattle.result_assembly.proofs.Turns.{times_of, times_most, two_here, counted_then_placed}

-- what is drained so far stays where no array changes
abbrev pub still_drained : (nothing : ℕ) (letters : List Letter) (sizes : List ℕ) (table : Table) (w g d : ℕ) (count : KExpr)
    (s u : State) → AreDrained nothing letters sizes table w g d count s → s.arrays ≡ u.arrays → value count u ≡ value count s
    → AreDrained nothing letters sizes table w g d count u
still_drained nothing letters sizes table w g d count s u dr same is = record {
  levels = dr.levels;
  positions = dr.positions;
  parents = dr.parents;
  packed = dr.packed;
  few = dr.few;
  told = is ∙ dr.told;
  held = subst (λ xs. AreHeld dr.levels 0 1 (summed xs)) same dr.held;
  places = subst (λ (xs : Arrays). xs (ListPositions g) ≡ Some dr.positions) same dr.places;
  rows = subst (HoldsTable w (length letters) table) same dr.rows;
  starts = dr.starts;
  begun = dr.begun;
  below = subst (StartsBelow nothing (drop d letters) (drop d sizes) dr.starts (suc d)) same dr.below;
  values = subst (λ (xs : Arrays). xs (Values 0) ≡ Some []) same dr.values;
}

module _ (letters rest : List Letter) (letter : Letter) (slotted : IsCounted letter) (w g d n base : ℕ) (count : KExpr)
    (bounded : Below base count) (left : drop d letters ≡ letter ∷ rest) (through : n ≡ d + chain_length (letter ∷ rest))
    (nothing : ℕ) (sizes : List ℕ) (table : Table) (may : MayDrain letters sizes table)
    (s : State) (dr : AreDrained nothing letters sizes table w g d count s) where
  abbrev pub rows : Rows
  rows = rows_here letters rest letter w g d n count left through nothing sizes table may s dr

  pub counts : MayCount (base + 1) w g (suc d) (begins_test (base + 1) w n) rows s
  counts = record {
    few = few_words letters rest letter w g d n count left through nothing sizes table may s dr;
    together = ((fill_here letters rest letter w g d n count left through nothing sizes table may s dr).inserts
        (ap (λ k. (capabilities k).append) (new_is letter (slice_index sizes d)).kind ∙ counted_never letter slotted)).1;
    first = first_told letters rest letter w g d n count left through nothing sizes table may s dr (base + 1);
    values = dr.rows.sums.words;
    values_are = dr.rows.sums.held;
    many = dr.rows.sums.many;
    positions = dr.positions;
    places = dr.places;
    length_is = dr.packed.many;
    parents_are = λ i h. refl;
  }

  module _ (t : State) (l : LeavesGreatest (base + 1) rows s t) where
    pub few_most : l.most ≤ greatest_position_count
    few_most =
        let m = greatest_few rows l.most l.greatest in
        let f = few_rows letters rest letter w g d n count left through nothing sizes table may s dr in omega (arith, m, f)

    pub count_kept : value count t ≡ value count s
    count_kept = value_kept (λ y. y < base) EveryArray count s t bounded (λ y less. l.leaves.below y (omega (arith, less)) (λ e. e))
        (λ a every. l.leaves.arrays a every)

    product : (n : ℕ) × (value (guarded_product count (Width (Var (base + 1 + 2)))) t ≡ Some n)
        × StandsForProduct dr.parents (slot_width l.most) n
    product =
        let small = positions_are_small in let few = few_most in
        guarded_told count (Width (Var (base + 1 + 2))) dr.parents (slot_width l.most) t (count_kept ∙ dr.told)
        (value_width (Var (base + 1 + 2)) t ∙ ap width_of l.answer ∙ width_is_slot_width l.most (omega (arith, small, few)))
        (widths_are_factors l.most few)

    pub total : ℕ
    total = product.0

    pub total_told : value (guarded_product count (Width (Var (base + 1 + 2)))) t ≡ Some total
    unfolding total
    total_told = product.1

    pub counted : dr.parents * slot_width l.most ≤ greatest_position_count → total ≡ dr.parents * slot_width l.most
    unfolding total
    counted h = product.2.same h

    -- as many as the kind says
    pub slots : positions_for letter (slice_index sizes d) dr.parents l.most ≡ dr.parents * slot_width l.most
    slots = stored_positions letter (slice_index sizes d) dr.parents l.most slotted.stored slotted.inserted

    pub same : s.arrays ≡ t.arrays
    same = fun_ext (λ a. sym (l.leaves.arrays a tt))

    abbrev pub drained_then : AreDrained nothing letters sizes table w g d count (set_var t base total)
    drained_then = still_drained nothing letters sizes table w g d count s (set_var t base total) dr same
        (value_kept (λ y. y < base) EveryArray count t (set_var t base total) bounded
        (λ y less. other_var t base y total (λ e. absurd (omega (arith, e, less)))) (λ a every. refl) ∙ count_kept)

  module _ (greatest insert : List KStmt)
      (finds : FindsGreatest (base + 1) w g (suc d) (begins_test (base + 1) w n) greatest)
      (places : PlacesRows meaning letter (suc d) (base + 1) w g count (Var (base + 1 + 2)) (begins_test (base + 1) w n)
      (At (Key w d) (Var (base + 1))) insert) (c : Setting) where
    inserts : (t : State) (l : LeavesGreatest (base + 1) rows s t)
        → Does c insert (set_var t base (total t l)) (LeavesLevel nothing letters sizes table w g d base s)
        (RefusesLevel letters sizes table d s)
    inserts t l =
        does_weaker c insert (set_var t base (total t l)) _ _ _ _
        (inserted letters rest letter w g d n base count (Var (base + 1 + 2)) left through (counted_never letter slotted) nothing
        sizes table may
        (set_var t base (total t l)) (drained_then t l) l.most (λ sparse. l.greatest) (λ full. apart (sym full ∙ slotted.stored))
        (total t l)
        (this_var t base (total t l)) (λ h. counted t l (subst (λ k. k ≤ greatest_position_count) (slots t l) h) ∙ sym (slots t l))
        c insert places
        (other_var t base (base + 1 + 2) (total t l) (λ e. absurd (omega (arith, e))) ∙ l.answer) (few_most t l)
        (λ full. apart (sym full ∙ slotted.stored)))
        (λ u z. record {
          drained = z.0;
          probes = times_of (probes_each letter l.most) rows.count;
          few = λ width narrow. times_most rows.count (probes_each letter l.most) width
              (let each = each_within letter l.most in let wide = narrow (slot_width l.most) (z.2 slotted.stored) in
              omega (arith, each, wide));
          leaves = record {
            below = λ y less no. z.1.below y (omega (arith, less)) no
                ∙ other_var t base y (total t l) (λ e. absurd (omega (arith, e, less))) ∙ l.leaves.below y (omega (arith, less)) no;
            arrays = λ a st. z.1.arrays a st ∙ l.leaves.arrays a tt;
            turns = λ k. counted_then_placed (s.turns k) (t.turns k) (u.turns k) (passes_at letters d) rows.count
                (probes_each letter l.most) k (two_here letters rest letter d rows.count (counted_unordered letter slotted) left)
                (l.leaves.turns k)
                (z.1.turns k);
          };
        })
        (λ turns a k r. (
          times_of (probes_each letter l.most) rows.count,
          (
            (λ j. counted_then_placed (s.turns j) (t.turns j) (turns j) (passes_at letters d) rows.count
                (probes_each letter l.most) j (two_here letters rest letter d rows.count (counted_unordered letter slotted) left)
                (l.leaves.turns j) (r.0 j)),
            r.1,
          ),
        ))

    pub counted_level : Does c (greatest ++ Set base (guarded_product count (Width (Var (base + 1 + 2)))) ∷ insert) s
        (LeavesLevel nothing letters sizes table w g d base s) (RefusesLevel letters sizes table d s)
    counted_level =
        does_append c greatest (Set base (guarded_product count (Width (Var (base + 1 + 2)))) ∷ insert) s
        (LeavesGreatest (base + 1) rows s) _ _
        (does_weaker c greatest s _ _ _ _ (finds c rows s counts) (λ t l. l) (λ turns a k never. absurd never))
        (λ t l. does_set c base (guarded_product count (Width (Var (base + 1 + 2)))) insert t (total t l) _ _ (total_told t l)
        (inserts t l))
