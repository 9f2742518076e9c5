-- The code of a hashed level that is the last, and of the values.
use Rattle.std.specs.Prelude.{◌≡◌, ◌≢◌, ℕ, zero, suc, ◌+◌, ◌*◌, ◌≤◌, ◌<◌, nat_le, Bool, true, false}
use Rattle.std.specs.Prelude.{if◌then◌else◌, List, [], ◌∷◌, ◌++◌, length, drop}
use Rattle.std.specs.Prelude.{replicate, slice_index, not, Some, refl}
use Rattle.std.proofs.Common.{◌∙◌, sym, ap, subst, arith, inl, inr}
use Rattle.std.proofs.lemmas.Bool.Decides.{nat_tests}
use Rattle.std.proofs.lemmas.List.{length-replicate}
use Rattle.limits.specs.Limits.{greatest_position_count}
use Rattle.kernel_code.specs.Arrays.{same_arr, may_have}
use Rattle.kernel_code.specs.Does.{Does, Never}
use Rattle.kernel_code.proofs.Does.{does_append, does_extend, does_nothing, does_set, does_weaker}
use Rattle.kernel_code.specs.Keeps.{Below, Leaves, NoVariable, no_turns}
use Rattle.kernel_code.proofs.ArrayNames.{same_arr_is, same_arr_self}
use Rattle.kernel_code.proofs.Keeps.{this_var, other_var, this_array, other_array}
use Rattle.kernel_code.specs.Meaning.{Setting, State, length_of, value, set_array, set_var}
use Rattle.kernel_code.specs.Widths.{slot_width}
use Rattle.kernel_code.specs.declared.syntax.Arr.{Arr}
use Rattle.kernel_code.specs.declared.syntax.Arr.TheVariants.{Values, Key, Sums, ListPositions}
use Rattle.kernel_code.specs.declared.syntax.KExpr.{KExpr, Num, Var, At, Len, Width}
use Rattle.kernel_code.specs.declared.syntax.KStmt.{KStmt, Set, Extend}
use Rattle.kernel_code.specs.declared.syntax.LoopKind.{LoopKind}
use Rattle.kernel_code.specs.declared.syntax.LoopKind.TheVariants.{Drain}
use Rattle.level_core.specs.declared.letter.Letter.{Letter}
use Rattle.level_core.specs.Codes.{PrepareCode, InsertCode, HoldsPrepared}
use Rattle.level_core.specs.Fragments.{IsOutside, turns_of}
use Rattle.level_core.specs.Kinds.{properties, capabilities, positions_for, MayPrepare}
use Rattle.level_core.specs.Laws.{HoldsStart}
use Rattle.level_core.specs.GuardedProducts.{guarded_product}
use Rattle.level_core.proofs.KindLaws.{are_of_a_kind}
use Rattle.level_rows.specs.Counting.{LeavesGreatest}
use Rattle.level_rows.specs.Draining.{Stays}
use Rattle.level_rows.specs.Placing.{insert_turns, probes_each, times, LeavesPlaced}
use Rattle.level_rows.specs.Rows.{Rows, begun_below, MayInsertRows}
use Rattle.level_rows.specs.Stacks.{Column, last_place}
use Rattle.level_rows.specs.Values.{StoresValues}
use Rattle.level_rows.specs.Tables.{ShareBy}
use Rattle.level_rows.proofs.InsertLoop.{Inserting, begins}
use Rattle.level_rows.proofs.ValueLaws.{places_apart}
use Rattle.format_spec.specs.Formats.{Chained}
use Rattle.tensor_storage.specs.declared.level.StorageLevel.{StorageLevel}
use Rattle.tensor_storage.specs.Chains.{chain_length}
use Rattle.tensor_storage.specs.Laws.{laws}
use Rattle.tensor_storage.specs.Levels.{meaning}
use Rattle.tensor_storage.specs.Tables.{Table, agree}
use Rattle.tensor_storage.proofs.Tables.{apart, agree_tells}
use Rattle.result_assembly.specs.Drained.{IsCounted, HasWords, MayDrain, AreDrained, RefusesLevel, passes_at}
use Rattle.result_assembly.specs.Filling.{fill_rows_code, without_values, counting_passes, FindsLast, LeavesFilled}
use Rattle.result_assembly.specs.Tests.{begins_test}
use Rattle.result_assembly.proofs.FillSteps.{LeavesRows, rows_filled}
use Rattle.result_assembly.proofs.CountedCode.{rows, counts, total, few_most, total_told, counted, slots, drained_then}
use Rattle.result_assembly.proofs.Holding.{level_beside}
use Rattle.result_assembly.proofs.KindLaws.{counted_never, counted_unordered, width_held}
use Rattle.result_assembly.proofs.Inserted.{start, needed, needed_is, refused_at, may_insert, after}
use Rattle.result_assembly.proofs.Lists.{as_many_columns, drop_rest}
use Rattle.result_assembly.proofs.OneParent.{greatest_of_one}
use Rattle.result_assembly.proofs.Steps.{few_words}
use Rattle.result_assembly.proofs.Stepwise.{values_upto, upto_stored}
use Rattle.result_assembly.proofs.Turns.{times_of, times_most, two_here, counted_then_placed, once_counted, passes_then_placed}

-- the last level is a chain by itself, where each coordinate stands once
pub one_chain : (letter : Letter) → IsCounted letter → chain_length (letter ∷ []) ≡ 1
one_chain letter counted =
    ap (λ unique. if unique then 1 else chain_length [] + 1) ((are_of_a_kind letter).inserted_unique counted.inserted)

some_same : {X : Type 0} (x y : X) → Some x ≡ Some y → x ≡ y
some_same x y h = cc

module _ (letters : List Letter) (letter : Letter) (slotted : IsCounted letter) (w g d n base : ℕ) (count : KExpr)
    (bounded : Below base count) (left : drop d letters ≡ letter ∷ []) (through : n ≡ d + chain_length (letter ∷ [])) (nothing : ℕ)
    (sizes : List ℕ) (table : Table)
    (may : MayDrain letters sizes table) (s : State) (dr : AreDrained nothing letters sizes table w g d count s) where
  abbrev rows_now : Rows
  rows_now = rows letters [] letter slotted w g d n base count bounded left through nothing sizes table may s dr

  all_levels : length letters ≡ suc d
  all_levels =
      let r = drop_rest letters d letter [] left in
      let less = r.0 in
      let none = ap length r.1 in
      let there = rest_many letters d less in
      omega (arith, less, none, there)
    where
      rest_many : (ls : List Letter) (k : ℕ) → k < length ls → length (drop (suc k) ls) + suc k ≡ length ls
      rest_many [] k h = absurd (omega (arith, h))
      rest_many (l ∷ ls) zero h = omega arith
      rest_many (l ∷ ls) (suc k) h = let i = rest_many ls k (omega (arith, h)) in omega (arith, i)

  -- each row has other coordinates than the one before, and begins a position
  each_first : (i : ℕ) → i < table.count → rows_now.first i ≡ true
  each_first zero h = refl
  each_first (suc i) h = by (agree table.coords n i (suc i)) refl
    where
      differs : agree table.coords n i (suc i) ≡ true → ⊥
      differs same =
          let b = may.order i h in
          let inside = b.1 in
          let all = all_levels in
          let less = b.3 in
          let alone = one_chain letter slotted in
          let equal = agree_tells table.coords n i (suc i) same b.0 (omega (arith, inside, all, through, alone)) in
          omega (arith, less, equal)

      by : (b : Bool) → agree table.coords n i (suc i) ≡ b → not (agree table.coords n i (suc i)) ≡ true
      by true is = absurd (differs is)
      by false is = ap not is

  -- below no level all rows have the one parent above all levels
  one_parent : d ≡ 0 → (i : ℕ) → slice_index dr.positions i ≡ 0
  one_parent none = by_columns dr.packed.columns none_above dr.packed.growing.place_is
    where
      none_above : length dr.packed.columns ≡ 0
      none_above =
          let deep = dr.packed.growing.depth in
          let each = as_many_columns meaning table letters dr.levels dr.packed.columns 0 (λ i. 0) 1 dr.packed.built in
          omega (arith, none, deep, each)

      by_columns : (columns : List Column) → length columns ≡ 0 → last_place columns (λ i. 0) ≡ slice_index dr.positions
          → (i : ℕ) → slice_index dr.positions i ≡ 0
      by_columns [] empty is i = sym (ap (λ f. f i) is)
      by_columns (column ∷ columns) empty is i = absurd (omega (arith, empty))

  -- the greatest number is found within so many turns
  abbrev Found : State → Type 0
  Found t = LeavesGreatest (base + 1) rows_now s t
      × ((k : LoopKind) → t.turns k ≤ s.turns k + turns_of Drain (times (counting_passes d) table.count) k)

  all_counted : d ≡ 0 → Found (set_var s (base + 1 + 2) table.count)
  all_counted none = (
    record {
      most = table.count;
      greatest = greatest_of_one rows_now each_first (λ i less. one_parent none i);
      answer = this_var s (base + 1 + 2) table.count;
      leaves = record {
        below = λ y less no. other_var s (base + 1 + 2) y table.count (λ e. absurd (omega (arith, e, less)));
        arrays = λ a every. refl;
        turns = λ k. omega arith;
      };
    },
    λ k. omega arith,
  )

  found : (greatest : List KStmt) → FindsLast (base + 1) w g (suc d) (begins_test (base + 1) w n) greatest → (c : Setting)
      → Does c greatest s Found Never
  found greatest (inl told) c =
      subst (λ code. Does c code s Found Never) (sym told.1)
      (does_set c (base + 1 + 2) (Len (Sums w)) [] s table.count _ _
      (ap length_of dr.rows.sums.held ∙ ap Some dr.rows.sums.many)
      (does_nothing c (set_var s (base + 1 + 2) table.count) _ _ (all_counted (let first = told.0 in omega (arith, first)))))
  found greatest (inr finds) c =
      does_weaker c greatest s _ _ _ _
      (finds.1 c rows_now s (counts letters [] letter slotted w g d n base count bounded left through nothing sizes table may s dr))
      (λ t l. (l, λ k. once_counted d (let more = finds.0 in omega (arith, more)) (s.turns k) (t.turns k) table.count k (l.leaves.turns k)))
      (λ turns a k never. absurd never)

  module _ (t : State) (l : LeavesGreatest (base + 1) rows_now s t)
      (few_counted : (k : LoopKind) → t.turns k ≤ s.turns k + turns_of Drain (times (counting_passes d) table.count) k) where
    abbrev width_all : ℕ
    width_all = total letters [] letter slotted w g d n base count bounded left through nothing sizes table may s dr t l

    abbrev sized : State
    sized = set_var t base width_all

    abbrev drained_now : AreDrained nothing letters sizes table w g d count sized
    drained_now = drained_then letters [] letter slotted w g d n base count bounded left through nothing sizes table may s dr t l

    abbrev most_is : KExpr
    most_is = Var (base + 1 + 2)

    start_now : HoldsStart meaning letter (slice_index sizes d) drained_now.starts 0 (suc d) sized.arrays
    start_now = start letters [] letter w g d n base count most_is left through (counted_never letter slotted) nothing sizes table
        may sized drained_now l.most

    abbrev old : StorageLevel
    old = (start letters [] letter w g d n base count most_is left through (counted_never letter slotted) nothing sizes table may
        sized drained_now l.most).start

    old_kind : meaning.kind old ≡ letter
    old_kind = (start letters [] letter w g d n base count most_is left through (counted_never letter slotted) nothing sizes table
        may sized drained_now l.most).kind

    abbrev needed_now : ℕ
    needed_now = needed letters [] letter w g d n base count most_is left through (counted_never letter slotted) nothing sizes table
        may sized drained_now l.most
        (λ sparse. l.greatest) (λ full. apart (sym full ∙ slotted.stored))

    needed_told : needed_now ≡ dr.parents * slot_width l.most
    needed_told = needed_is letters [] letter w g d n base count most_is left through (counted_never letter slotted) nothing sizes
        table may sized drained_now l.most
        (λ sparse. l.greatest) (λ full. apart (sym full ∙ slotted.stored))
        ∙ slots letters [] letter slotted w g d n base count bounded left through nothing sizes table may s dr t l

    counted_now : dr.parents * slot_width l.most ≤ greatest_position_count → width_all ≡ dr.parents * slot_width l.most
    counted_now = counted letters [] letter slotted w g d n base count bounded left through nothing sizes table may s dr t l

    counted_of_kind : positions_for letter (slice_index sizes d) dr.parents l.most ≤ greatest_position_count
        → width_all ≡ positions_for letter (slice_index sizes d) dr.parents l.most
    counted_of_kind h =
        let as_many = slots letters [] letter slotted w g d n base count bounded left through nothing sizes table may s dr t l in
        counted_now (subst (λ k. k ≤ greatest_position_count) as_many h) ∙ sym as_many

    stands : sized.vars base ≡ Some width_all
    stands = this_var t base width_all

    most_told : value most_is sized ≡ Some l.most
    most_told = other_var t base (base + 1 + 2) width_all (λ e. absurd (omega (arith, e))) ∙ l.answer

    enough : (properties (meaning.kind old)).full ≡ false → (p : ℕ) → p < dr.parents
        → begun_below rows_now p rows_now.count ≤ l.most
    enough sparse p less = l.greatest.upto p

    may_fill_rows : MayInsertRows (meaning.size old) dr.parents rows_now
    may_fill_rows = may_insert letters [] letter w g d n base count most_is left through (counted_never letter slotted) nothing
        sizes table may sized drained_now
        l.most (λ sparse. l.greatest) (λ full. apart (sym full ∙ slotted.stored))

    can : MayPrepare (meaning.kind old) (meaning.width old) l.most
    can = record {
      able = ap (λ k. (capabilities k).insert) old_kind ∙ slotted.inserted;
      unprepared = (start letters [] letter w g d n base count most_is left through (counted_never letter slotted) nothing sizes
          table may sized drained_now
          l.most).width;
      coordinates = few_most letters [] letter slotted w g d n base count bounded left through nothing sizes table may s dr t l;
    }

    -- once the level is prepared
    module _ (v : State) (kept : Leaves NoVariable (IsOutside 0 (suc d)) (base + 1 + 6) no_turns sized v)
        (h : HoldsPrepared meaning old dr.parents l.most 0 (suc d) v) (fits : needed_now ≤ greatest_position_count) where
      total_is : width_all ≡ needed_now
      total_is = let told = needed_told in let f = fits in counted_now (omega (arith, told, f)) ∙ sym told

      abbrev zeroed : State
      zeroed = set_array v (Values 0) (replicate width_all nothing)

      count_now : value (Var base) v ≡ Some width_all
      count_now = kept.below base (omega arith) (λ no. no) ∙ stands

      empty : v.arrays (Values 0) ≡ Some []
      empty = kept.arrays (Values 0) (λ of. of) ∙ drained_now.values

      -- an array of the workspace is as it was
      kept_here : (a : Arr) → IsOutside 0 (suc d) a → same_arr (Values 0) a ≡ false → zeroed.arrays a ≡ s.arrays a
      kept_here a outside other =
          other_array v (Values 0) a (replicate width_all nothing) other ∙ kept.arrays a outside ∙ l.leaves.arrays a tt

      begun : Inserting meaning dr.parents l.most 0 0 rows_now dr.positions old h.left
      begun = begins meaning laws dr.parents l.most rows_now old may_fill_rows enough dr.positions h.left
          (start letters [] letter w g d n base count most_is left through (counted_never letter slotted) nothing sizes table may
          sized drained_now l.most).keeps
          can fits h.prepared dr.packed.many (λ i less. refl)

      held_now : meaning.holds h.left 0 (suc d) zeroed.arrays
      held_now = laws.held_there h.left 0 (suc d) v.arrays zeroed.arrays
          (λ x of. other_array v (Values 0) x (replicate width_all nothing) (level_beside x (suc d) g of).1) h.held

      key_words : HasWords (Key w d) table.count (table.coords d) s.arrays
      key_words = dr.rows.key d (let all = all_levels in omega (arith, all))

      fills : (insert : List KStmt)
          → InsertCode meaning letter 0 (suc d) (Var (base + 1 + 4) ∷ At (Key w d) (Var (base + 1)) ∷ []) (base + 1 + 6) insert
          → (c : Setting)
          → Does c (fill_rows_code (base + 1) w g insert) zeroed
          (LeavesRows old (suc d) g (base + 1) dr.parents l.most nothing width_all rows_now table.values zeroed) Never
      fills insert code c =
          rows_filled c (suc d) d (base + 1) w g dr.parents l.most nothing width_all insert rows_now table.values old zeroed letter
          slotted code old_kind
          may_fill_rows enough each_first
          (record {
            words = key_words.words;
            held = kept_here (Key w d) (λ of. of) refl ∙ key_words.held;
            many = key_words.many;
            are = key_words.are;
          })
          (record {
            words = dr.rows.sums.words;
            held = kept_here (Sums w) (λ of. of) refl ∙ dr.rows.sums.held;
            many = dr.rows.sums.many;
            are = dr.rows.sums.are;
          })
          (few_words letters [] letter w g d n count left through nothing sizes table may s dr) total_is h.left dr.positions begun held_now
          (kept_here (ListPositions g) (λ of. of) refl ∙ dr.places)
          (this_array v (Values 0) (Values 0) (replicate width_all nothing) (same_arr_self (Values 0)))

      -- all rows are filled
      module _ (u : State)
          (r : LeavesRows old (suc d) g (base + 1) dr.parents l.most nothing width_all rows_now table.values zeroed u) where
        emptied : (a : Arr) → Stays (suc d) g a → (without_values u).arrays a ≡ sized.arrays a
        emptied a st = by (same_arr (Values 0) a) refl
          where
            by : (b : Bool) → same_arr (Values 0) a ≡ b → (without_values u).arrays a ≡ sized.arrays a
            by true is =
                this_array u (Values 0) a [] is ∙ sym drained_now.values ∙ ap sized.arrays (same_arr_is (Values 0) a is)
            by false is =
                other_array u (Values 0) a [] is ∙ r.leaves.arrays a (st, is)
                ∙ other_array v (Values 0) a (replicate width_all nothing) is ∙ kept.arrays a st.0

        vars_kept : (y : ℕ) → y < base + 1 → u.vars y ≡ sized.vars y
        vars_kept y less = r.leaves.below y less (λ no. no) ∙ kept.below y (omega (arith, less)) (λ no. no)

        turns_made : (k : LoopKind) → u.turns k ≤ sized.turns k + insert_turns (slot_width l.most) rows_now.count k
        turns_made k = let first = kept.turns k in let then_more = r.leaves.turns k in omega (arith, first, then_more)

        each_is : probes_each (meaning.kind old) l.most ≡ slot_width l.most
        each_is = ap (λ b. if b then 0 else slot_width l.most)
            (ap (λ k. (properties k).ordered) old_kind ∙ counted_unordered letter slotted)

        abbrev placed : LeavesPlaced meaning old (suc d) g (base + 1) dr.parents l.most rows_now sized (without_values u)
        placed = record {
          left = r.left;
          held = laws.held_there r.left 0 (suc d) u.arrays (without_values u).arrays
              (λ x of. other_array u (Values 0) x [] (level_beside x (suc d) g of).1) r.held;
          positions = r.positions;
          places = other_array u (Values 0) (ListPositions g) [] refl ∙ r.places;
          inserted = r.inserted;
          width = λ stored. r.width;
          leaves = record {
            below = λ y less no. vars_kept y less;
            arrays = emptied;
            turns = subst (λ n. (k : LoopKind) → u.turns k ≤ sized.turns k + insert_turns n rows_now.count k) (sym each_is) turns_made;
          };
        }

        abbrev drained_all : AreDrained nothing letters sizes table w g (suc d) (Var base) (without_values u)
        drained_all =
            after letters [] letter w g d n base count most_is left through (counted_never letter slotted) nothing sizes table may
            sized drained_now l.most
            (λ sparse. l.greatest) (λ full. apart (sym full ∙ slotted.stored)) width_all stands counted_of_kind (without_values u) placed

        positions_same : r.positions ≡ drained_all.positions
        positions_same = some_same r.positions drained_all.positions (sym placed.places ∙ drained_all.places)

        parents_same : width_all ≡ drained_all.parents
        parents_same = some_same width_all drained_all.parents (sym (vars_kept base (omega arith) ∙ stands) ∙ drained_all.told)

        -- no two rows have one position
        distinct : (i j : ℕ) → i < j → j < table.count → slice_index drained_all.positions i ≢ slice_index drained_all.positions j
        distinct =
            let p = drained_all.packed in
            let behind : drop (suc d) letters ≡ [] = sym (drop_rest letters d letter [] left).1 in
            let ended : p.groups ≡ false = subst (Chained p.groups) behind p.chained in
            let all = all_levels in
            places_apart table.coords (length letters) table.count drained_all.parents (slice_index drained_all.positions) may.order
            (subst (λ m. ShareBy table.coords m table.count drained_all.parents (slice_index drained_all.positions))
            (p.growing.level ended ∙ sym all) p.growing.share)

        stored : StoresValues table.count (slice_index drained_all.positions) table.values (replicate drained_all.parents nothing)
            (values_upto (slice_index r.positions) table.values (replicate width_all nothing) table.count)
        stored =
            subst (λ ps. StoresValues table.count (slice_index drained_all.positions) table.values (replicate drained_all.parents nothing)
            (values_upto (slice_index ps) table.values (replicate width_all nothing) table.count)) (sym positions_same)
            (subst (λ m. StoresValues table.count (slice_index drained_all.positions) table.values (replicate drained_all.parents nothing)
            (values_upto (slice_index drained_all.positions) table.values (replicate m nothing) table.count)) (sym parents_same)
            (upto_stored table.count (slice_index drained_all.positions) table.values (replicate drained_all.parents nothing) distinct
            (λ i less. let long = length-replicate drained_all.parents nothing in
            let within = drained_all.packed.growing.share.within i less in omega (arith, long, within)) table.count (omega arith)))

        filled : LeavesFilled nothing letters sizes table w g d base s u
        filled = record {
          drained = drained_all;
          values = values_upto (slice_index r.positions) table.values (replicate width_all nothing) table.count;
          held = r.values_held;
          stores = stored;
          probes = times_of (slot_width l.most) table.count;
          few = λ width narrow. times_most table.count (slot_width l.most) width
              (narrow (slot_width l.most) (width_held r.left (suc d) (slot_width l.most) u.arrays r.held r.width));
          leaves = record {
            below = λ y less no. vars_kept y (omega (arith, less)) ∙ other_var t base y width_all (λ e. absurd (omega (arith, e, less)))
                ∙ l.leaves.below y (omega (arith, less)) no;
            arrays = λ a st. r.leaves.arrays a st ∙ other_array v (Values 0) a (replicate width_all nothing) st.1
                ∙ kept.arrays a st.0.0 ∙ l.leaves.arrays a tt;
            turns = λ k. passes_then_placed (s.turns k) (t.turns k) (u.turns k) (counting_passes d) table.count (slot_width l.most) k
                (few_counted k) (turns_made k);
          };
        }

      too_many : {A : Type 0} → may_have (Values 0) (length {A = ℕ} [] + width_all) ≡ false → A
      too_many e =
          let f = fits in
          let same = total_is in
          let small : width_all ≤ greatest_position_count = omega (arith, f, same) in
          let is : nat_le (0 + width_all) greatest_position_count ≡ true = grind (arith, nat_tests, small) in
          apart (sym is ∙ e)

      fills_all : (insert : List KStmt)
          → InsertCode meaning letter 0 (suc d) (Var (base + 1 + 4) ∷ At (Key w d) (Var (base + 1)) ∷ []) (base + 1 + 6) insert
          → (c : Setting)
          → Does c (Extend (Values 0) (Var base) (Num nothing) ∷ fill_rows_code (base + 1) w g insert) v
          (LeavesFilled nothing letters sizes table w g d base s) (RefusesLevel letters sizes table d s)
      fills_all insert code c =
          does_extend c (Values 0) (Var base) (Num nothing) _ v width_all nothing [] _ _ count_now refl refl empty
          (λ room. does_weaker c (fill_rows_code (base + 1) w g insert) zeroed _ _ _ _ (fills insert code c) filled
          (λ turns a k never. absurd never))
          (λ no. too_many no)

    prepared : (prepare insert : List KStmt)
        → PrepareCode meaning letter 0 (suc d) (count ∷ most_is ∷ []) (base + 1 + 6) prepare
        → InsertCode meaning letter 0 (suc d) (Var (base + 1 + 4) ∷ At (Key w d) (Var (base + 1)) ∷ []) (base + 1 + 6) insert
        → (c : Setting)
        → Does c (prepare ++ Extend (Values 0) (Var base) (Num nothing) ∷ fill_rows_code (base + 1) w g insert) sized
        (LeavesFilled nothing letters sizes table w g d base s) (RefusesLevel letters sizes table d s)
    prepared prepare insert prepares code c =
        does_append c prepare _ sized _ _ _
        (does_weaker c prepare sized _ _ _ _
        (prepares c old old_kind
        (start letters [] letter w g d n base count most_is left through (counted_never letter slotted) nothing sizes table may
        sized drained_now l.most).keeps
        dr.parents l.most can (λ full. apart (sym full ∙ ap (λ k. (properties k).full) old_kind ∙ slotted.stored)) sized
        (start letters [] letter w g d n base count most_is left through (counted_never letter slotted) nothing sizes table may
        sized drained_now l.most).held
        (drained_now.told, (most_told, tt)))
        (λ v z. z)
        (λ turns a k z. (
          times_of (slot_width l.most) table.count,
          (
            (λ j. counted_then_placed (s.turns j) (t.turns j) (turns j) (passes_at letters d) table.count (slot_width l.most) j
                (two_here letters [] letter d table.count (counted_unordered letter slotted) left) (l.leaves.turns j)
                (let none = z.0 j in omega (arith, none))),
            refused_at letters [] letter w g d n base count most_is left through (counted_never letter slotted) nothing sizes table
                may sized drained_now l.most
                (λ sparse. l.greatest) (λ full. apart (sym full ∙ slotted.stored)) a k z.1,
          ),
        )))
        (λ v z. fills_all v z.0 z.1.0 z.1.1 insert code c)

  pub last_filled : (greatest prepare insert : List KStmt)
      → FindsLast (base + 1) w g (suc d) (begins_test (base + 1) w n) greatest
      → PrepareCode meaning letter 0 (suc d) (count ∷ Var (base + 1 + 2) ∷ []) (base + 1 + 6) prepare
      → InsertCode meaning letter 0 (suc d) (Var (base + 1 + 4) ∷ At (Key w d) (Var (base + 1)) ∷ []) (base + 1 + 6) insert
      → (c : Setting)
      → Does c (greatest ++ Set base (guarded_product count (Width (Var (base + 1 + 2))))
      ∷ (prepare ++ Extend (Values 0) (Var base) (Num nothing) ∷ fill_rows_code (base + 1) w g insert)) s
      (LeavesFilled nothing letters sizes table w g d base s) (RefusesLevel letters sizes table d s)
  last_filled greatest prepare insert finds prepares code c =
      does_append c greatest _ s Found _ _
      (does_weaker c greatest s _ _ _ _ (found greatest finds c) (λ t f. f) (λ turns a k never. absurd never))
      (λ t f. does_set c base (guarded_product count (Width (Var (base + 1 + 2)))) _ t (width_all t f.0 f.1) _ _
      (total_told letters [] letter slotted w g d n base count bounded left through nothing sizes table may s dr t f.0)
      (prepared t f.0 f.1 prepare insert prepares code c))
