-- Levels that are filled, and then the values, are a packed result.
use Rattle.std.specs.Prelude.{◌≡◌, ℕ, suc, ◌+◌, ◌*◌, ◌≤◌, ◌<◌, ◌^◌, Bool, true, false, if◌then◌else◌, List, [], ◌∷◌, ◌++◌}
use Rattle.std.specs.Prelude.{length, map, drop, replicate, None, Some, refl}
use Rattle.std.proofs.Common.{◌∙◌, sym, ap, subst, arith}
use Rattle.std.proofs.lemmas.List.{append-nil, length-map}
use Rattle.limits.proofs.Limits.{positions_are_small, workspace_pairs_are_positions}
use Rattle.kernel_code.specs.Does.{Does}
use Rattle.kernel_code.proofs.Does.{does_weaker, does_append}
use Rattle.kernel_code.proofs.Keeps.{other_array}
use Rattle.kernel_code.specs.Meaning.{Setting, State}
use Rattle.kernel_code.specs.declared.syntax.Arr.TheVariants.{Values, Width}
use Rattle.kernel_code.specs.declared.syntax.KExpr.{KExpr, Var}
use Rattle.kernel_code.specs.declared.syntax.KStmt.{KStmt}
use Rattle.kernel_code.specs.declared.syntax.LoopKind.{LoopKind}
use Rattle.level_core.specs.declared.letter.Letter.{Letter}
use Rattle.level_core.specs.Kinds.{properties}
use Rattle.level_rows.specs.Tables.{Increase}
use Rattle.format_spec.specs.declared.format.FormatLevel.{FormatLevel}
use Rattle.format_spec.specs.Formats.{letters_of, IsFormat}
use Rattle.tensor_storage.specs.Levels.{meaning}
use Rattle.tensor_storage.specs.Packed.{ArePacked}
use Rattle.tensor_storage.specs.Stands.{IsPacked}
use Rattle.tensor_storage.specs.Storages.{IsStorage, storage_of, in_level_order}
use Rattle.tensor_storage.specs.Tables.{Table}
use Rattle.tensor_storage.proofs.Standing.{pack_done, distinct_places}
use Rattle.tensor_storage.proofs.Tables.{apart}
use Rattle.result_assembly.specs.Drained.{MayDrain, AreDrained, IsAboveLast, IsCounted, drain_turns, most_passes}
use Rattle.result_assembly.specs.Drained.{passes, passes_at, passes_of}
use Rattle.result_assembly.specs.Filling.{without_values, counting_passes, LeavesFilled, FillsLast}
use Rattle.result_assembly.specs.Levels.{IsReady, LeavesLevels, RefusesLevels, DrainsFirst}
use Rattle.result_assembly.specs.Stored.{values_code, LeavesValues, LeavesStored, DrainsResult}
use Rattle.result_assembly.proofs.Holding.{held_along, level_beside}
use Rattle.result_assembly.proofs.KindLaws.{counted_unordered}
use Rattle.result_assembly.proofs.Lists.{drop_none, drop_rest, left_long}
use Rattle.result_assembly.proofs.Turns.{alone_once, last_within, values_within, fewer_passes, one_pass_more}
use Rattle.result_assembly.proofs.Turns.{more_turns, fewer_turns, probes_more}
use Rattle.result_assembly.proofs.AllLevels.{other_level}
use Rattle.result_assembly.proofs.ValueCode.{values_stored}

module _ (format : List FormatLevel) (w g base nothing : ℕ) (code : List KStmt) (is : IsFormat format)
    (first : DrainsFirst (letters_of format) (length format) w g base code)
    (once : passes_of (letters_of format) (length format) + 1 ≤ most_passes (length format))
    (last : IsAboveLast (letters_of format) None) (c : Setting) (ranges : List ℕ) (table : Table)
    (may : MayDrain (letters_of format) (in_level_order format ranges) table)
    (s : State) (ready : IsReady nothing (letters_of format) (in_level_order format ranges) table w g s) where
  abbrev values_here : List KStmt
  values_here = values_code (base + length format + 1) w g (Var (base + length format)) nothing

  up : Increase table.coords (length format) table.count
  up = subst (λ n. Increase table.coords n table.count) (length-map format (λ level. level.letter)) may.order

  module _ (t : State) (l : LeavesLevels nothing (letters_of format) (in_level_order format ranges) table w g (length format) base s
      t) where
    dr : AreDrained nothing (letters_of format) (in_level_order format ranges) table w g (length format) (Var (base + length format)) t
    dr = l.drained

    few_words : table.count < 2 ^ 63
    few_words =
        let f = may.few in let e = workspace_pairs_are_positions in let small = positions_are_small in omega (arith, f, e, small)

    after : (u : State) → LeavesValues nothing table (base + length format + 1) l.drained.parents l.drained.positions t u
        → LeavesStored nothing format ranges table g base s u
    after u v = record {
      levels = l.drained.levels;
      values = v.values;
      held =
          (let deep = l.drained.packed.growing.depth in
          held_along l.drained.levels 1 (suc (length format)) t.arrays u.arrays (omega (arith, deep))
          (λ j x less of. v.leaves.arrays x (level_beside x j g of).1) l.drained.held);
      values_held = v.held;
      letters = sym (append-nil (map meaning.kind l.drained.levels))
          ∙ ap (λ ls. map meaning.kind l.drained.levels ++ ls) (sym none_left) ∙ l.drained.packed.kinds;
      packed = done.0;
      storage = done.1;
      probes = l.probes;
      few = λ width narrow. l.few width (λ k less n is. narrow (suc k) n (v.leaves.arrays (Width 0 (suc k)) refl ∙ is));
      leaves = record {
        below = λ y less no. v.leaves.below y (omega (arith, less)) no ∙ l.leaves.below y less no;
        arrays = λ a st. v.leaves.arrays a st.1 ∙ l.leaves.arrays a st.0;
        turns = λ k.
            (let x = l.leaves.turns k in
            let y = v.leaves.turns k in
            fewer_passes (s.turns k) (u.turns k) (passes_of (letters_of format) (length format) + 1) (most_passes (length format))
            table.count l.probes k once
            (one_pass_more (s.turns k) (u.turns k) (passes_of (letters_of format) (length format)) table.count l.probes k
            (omega (arith, x, y))));
      };
      once = λ letter alone counted. absurd (never_alone letter alone counted);
    }
      where
        -- such a level is gone over twice
        never_alone : (letter : Letter) → letters_of format ≡ letter ∷ [] → IsCounted letter → ⊥
        never_alone letter alone counted =
            let at_most : passes_at (letter ∷ []) 0 ≤ 1 =
            subst (λ ls. passes_at ls 0 ≤ 1) alone (last 0 (sym (ap length alone))) in
            let two : 2 ≤ passes letter = twice (properties letter).ordered (counted_unordered letter counted) in
            omega (arith, at_most, two)
          where
            twice : (ordered : Bool) → ordered ≡ false → 2 ≤ (if ordered then 1 else 2)
            twice true is = apart is
            twice false is = omega arith

        none_left : drop (length format) (letters_of format) ≡ []
        none_left = ap (λ n. drop n (letters_of format)) (sym (length-map format (λ level. level.letter))) ∙ drop_none (letters_of format)

        done : IsPacked nothing format ranges table (storage_of format l.drained.levels v.values)
            × IsStorage (storage_of format l.drained.levels v.values)
        done = pack_done nothing format ranges table l.drained.levels l.drained.positions l.drained.positions l.drained.parents
            (replicate l.drained.parents nothing) v.values v.values is up l.drained.packed refl refl v.stores refl

    stores : Does c values_here t (LeavesStored nothing format ranges table g base s)
        (RefusesLevels (letters_of format) (in_level_order format ranges) table (length format) s)
    stores =
        does_weaker c values_here t _ _ _ _
        (values_stored c w g (base + length format + 1) nothing (Var (base + length format)) table l.drained.parents l.drained.positions t
        few_words l.drained.few l.drained.told l.drained.values l.drained.rows.sums l.drained.places l.drained.packed.many
        l.drained.packed.growing.share.within
        (distinct_places format ranges table l.drained.levels l.drained.positions l.drained.positions l.drained.parents up
        l.drained.packed refl))
        (λ u v. after u v) (λ turns a k never. absurd never)

  whole : Does c (code ++ values_here) s (LeavesStored nothing format ranges table g base s)
      (RefusesLevels (letters_of format) (in_level_order format ranges) table (length format) s)
  whole =
      does_append c code values_here s
      (LeavesLevels nothing (letters_of format) (in_level_order format ranges) table w g (length format) base s) _ _
      (first c nothing (in_level_order format ranges) table may s ready) (λ t l. stores t l)

pub whole_drained : (format : List FormatLevel) (w g base nothing place : ℕ) (count : KExpr) (code values all : List KStmt)
    → IsFormat format → IsAboveLast (letters_of format) None
    → DrainsFirst (letters_of format) (length format) w g base code → place ≡ base + length format + 1
    → count ≡ Var (base + length format) → values ≡ values_code place w g count nothing → all ≡ code ++ values
    → DrainsResult format w g base nothing all
whole_drained format w g base nothing place count code values all is last first placed counted valued all_is =
    let many = length-map format (λ (level : FormatLevel). level.letter) in
    let once : passes_of (letters_of format) (length format) + 1 ≤ most_passes (length format) =
    subst (λ n. passes_of (letters_of format) n + 1 ≤ most_passes n) many (values_within (letters_of format) last) in
    let values_is : values ≡ values_code (base + length format + 1) w g (Var (base + length format)) nothing =
    valued ∙ ap (λ p. values_code p w g count nothing) placed
    ∙ ap (λ e. values_code (base + length format + 1) w g e nothing) counted in
    subst (DrainsResult format w g base nothing) (sym (all_is ∙ ap (λ v. code ++ v) values_is))
    (λ c ranges table may s ready. whole format w g base nothing code is first once last c ranges table may s ready)

-- where the coordinates of the last level are counted its code stores the values too
module _ (format : List FormatLevel) (w g base nothing d : ℕ) (code last : List KStmt) (is : IsFormat format)
    (letter : Letter) (left : drop d (letters_of format) ≡ letter ∷ []) (counted : IsCounted letter)
    (first : DrainsFirst (letters_of format) d w g base code)
    (fills : FillsLast nothing (suc d) w g (base + d + 1) (Var (base + d)) last)
    (c : Setting) (ranges : List ℕ) (table : Table) (may : MayDrain (letters_of format) (in_level_order format ranges) table)
    (s : State) (ready : IsReady nothing (letters_of format) (in_level_order format ranges) table w g s) where
  abbrev letters : List Letter
  letters = letters_of format

  abbrev sizes : List ℕ
  sizes = in_level_order format ranges

  many_letters : length (letters_of format) ≡ length format
  many_letters = length-map format (λ (level : FormatLevel). level.letter)

  all_levels : suc d ≡ length format
  all_levels =
      let r = drop_rest (letters_of format) d letter [] left in
      let less = r.0 in
      let none = ap length r.1 in
      let there = left_long (letters_of format) d less in
      omega (arith, less, none, there, many_letters)

  rises : Increase table.coords (length format) table.count
  rises = subst (λ n. Increase table.coords n table.count) many_letters may.order

  module _ (t u : State) (f : LeavesLevels nothing letters sizes table w g d base s t)
      (l : LeavesFilled nothing letters sizes table w g d (base + d + 1) t u) where
    packed_all : ArePacked meaning letters sizes table (length format) l.drained.levels l.drained.positions l.drained.parents
    packed_all =
        subst (λ n. ArePacked meaning letters sizes table n l.drained.levels l.drained.positions l.drained.parents) all_levels
        l.drained.packed

    done : IsPacked nothing format ranges table (storage_of format l.drained.levels l.values)
        × IsStorage (storage_of format l.drained.levels l.values)
    done =
        pack_done nothing format ranges table l.drained.levels l.drained.positions l.drained.positions l.drained.parents
        (replicate l.drained.parents nothing) l.values l.values is rises packed_all refl refl l.stores refl

    turns_of_both : (k : LoopKind) → u.turns k ≤ s.turns k
        + drain_turns (passes_of letters d + (counting_passes d + 1)) table.count (f.probes + l.probes) k
    turns_of_both k =
        more_turns (s.turns k) (t.turns k) (u.turns k) (passes_of letters d) (counting_passes d + 1) table.count f.probes l.probes k
        (f.leaves.turns k) (l.leaves.turns k)

    none_left : drop (suc d) (letters_of format) ≡ []
    none_left = sym (drop_rest (letters_of format) d letter [] left).1

    filled : LeavesStored nothing format ranges table g base s u
    filled = record {
      levels = l.drained.levels;
      values = l.values;
      held =
          (let deep = l.drained.packed.growing.depth in
          held_along l.drained.levels 1 (suc (suc d)) (without_values u).arrays u.arrays (omega (arith, deep))
          (λ j x less of. sym (other_array u (Values 0) x [] (level_beside x j g of).1)) l.drained.held);
      values_held = l.held;
      letters = sym (append-nil (map meaning.kind l.drained.levels))
          ∙ ap (λ ls. map meaning.kind l.drained.levels ++ ls) (sym none_left) ∙ l.drained.packed.kinds;
      packed = done.0;
      storage = done.1;
      probes = f.probes + l.probes;
      few = λ width narrow. subst (λ m. f.probes + l.probes ≤ m * (width * table.count)) all_levels
          (probes_more d (width * table.count) f.probes l.probes
          (f.few width (λ k less n is. narrow (suc k) n (l.leaves.arrays (Width 0 (suc k)) (other_level d g k less, refl) ∙ is)))
          (l.few width (narrow (suc d))));
      leaves = record {
        below = λ y less no. l.leaves.below y (omega (arith, less)) no ∙ f.leaves.below y less no;
        arrays = λ a st. l.leaves.arrays a ((st.0.0 (suc d), st.0.1), st.1) ∙ f.leaves.arrays a st.0;
        turns = λ k.
            fewer_passes (s.turns k) (u.turns k) (passes_of letters d + (counting_passes d + 1)) (most_passes (length format)) table.count
            (f.probes + l.probes) k (last_within letters d (length format) all_levels)
            (turns_of_both k);
      };
      once = λ letter alone counted k.
          fewer_passes (s.turns k) (u.turns k) (passes_of letters d + (counting_passes d + 1)) 1 table.count (f.probes + l.probes) k
          (alone_once letters d (let one = ap length alone in let all = all_levels in omega (arith, one, all, many_letters)))
          (turns_of_both k);
    }

  filled_all : Does c (code ++ last) s (LeavesStored nothing format ranges table g base s)
      (RefusesLevels letters sizes table (length format) s)
  filled_all =
      does_append c code last s (LeavesLevels nothing letters sizes table w g d base s) _ _
      (does_weaker c code s _ _ _ _ (first c nothing sizes table may s ready) (λ t f. f)
      (λ turns a k r. subst (λ n. RefusesLevels letters sizes table n s turns a k) all_levels (
        r.0,
        omega (arith, r.1),
        r.2,
        ((λ j. fewer_turns (s.turns j) (turns j) (passes_of letters d) (passes_at letters d) table.count r.2 j (r.3.0 j)), r.3.1),
      )))
      (λ t f.
      does_weaker c last t _ _ _ _ (fills letters letter d refl left counted c sizes table may t f.drained) (λ u l. filled t u f l)
      (λ turns a k r. subst (λ n. RefusesLevels letters sizes table n s turns a k) all_levels (
        d,
        omega arith,
        f.probes + r.0,
        (
          (λ j. more_turns (s.turns j) (t.turns j) (turns j) (passes_of letters d) (passes_at letters d) table.count f.probes r.0 j
              (f.leaves.turns j) (r.1.0 j)),
          r.1.1,
        ),
      )))

pub whole_filled : (format : List FormatLevel) (w g base nothing d level place : ℕ) (count : KExpr) (code last all : List KStmt)
    → IsFormat format → IsAboveLast (letters_of format) (Some d) → DrainsFirst (letters_of format) d w g base code → level ≡ suc d
    → place ≡ base + d + 1 → count ≡ Var (base + d) → FillsLast nothing level w g place count last → all ≡ code ++ last
    → DrainsResult format w g base nothing all
whole_filled format w g base nothing d level place count code last all is above first number placed told fills all_is =
    let fills_here : FillsLast nothing (suc d) w g (base + d + 1) (Var (base + d)) last =
    subst (λ l. FillsLast nothing l w g (base + d + 1) (Var (base + d)) last) number
    (subst (λ p. FillsLast nothing level w g p (Var (base + d)) last) placed
    (subst (λ e. FillsLast nothing level w g place e last) told fills)) in
    subst (DrainsResult format w g base nothing) (sym all_is)
    (λ c ranges table may s ready. filled_all format w g base nothing d code last is above.0 above.2 above.1 first fills_here c ranges table
    may s ready)
