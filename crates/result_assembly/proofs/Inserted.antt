-- The code of a level that coordinates are inserted into, once it is known how wide it has to be.
use Rattle.std.specs.Prelude.{◌≡◌, ◌⊎◌, ℕ, zero, suc, ◌+◌, ◌≤◌, ◌<◌, ◌==◌, ◌&&◌, Bool, true, false, if◌then◌else◌, List, [], ◌∷◌}
use Rattle.std.specs.Prelude.{drop, slice_index, Some, refl}
use Rattle.std.proofs.Common.{◌∙◌, sym, ap, subst, arith, inl, inr}
use Rattle.limits.specs.Limits.{greatest_position_count}
use Rattle.kernel_code.specs.Does.{Does}
use Rattle.kernel_code.proofs.Does.{does_weaker}
use Rattle.kernel_code.specs.Keeps.{Leaves, NoVariable}
use Rattle.kernel_code.specs.Meaning.{Setting, State, value}
use Rattle.kernel_code.specs.Widths.{slot_width}
use Rattle.kernel_code.specs.declared.syntax.Arr.{Arr}
use Rattle.kernel_code.specs.declared.syntax.Arr.TheVariants.{Key, Width}
use Rattle.kernel_code.specs.declared.syntax.KExpr.{KExpr, Var, At}
use Rattle.kernel_code.specs.declared.syntax.KStmt.{KStmt}
use Rattle.kernel_code.specs.declared.syntax.LoopKind.{LoopKind}
use Rattle.level_core.specs.declared.letter.Letter.{Letter}
use Rattle.level_core.specs.Entries.{one}
use Rattle.level_core.specs.Fragments.{PassesLimitWithin, RefusedWithin}
use Rattle.level_core.specs.Kinds.{properties, capabilities, positions_for}
use Rattle.level_core.specs.Laws.{HoldsStart}
use Rattle.level_rows.specs.Rows.{Rows, begun_below, IsGreatestBelow, MayInsertRows}
use Rattle.level_rows.specs.Draining.{Stays}
use Rattle.level_rows.specs.Placing.{insert_turns, probes_each, MayPlace, LeavesPlaced, PlacesRows}
use Rattle.level_rows.specs.Filling.{AreNeeded, FillsRows}
use Rattle.level_core.proofs.KindLaws.{inserted_else, no_positions, starts_within}
use Rattle.tensor_storage.specs.Chains.{chain_length}
use Rattle.tensor_storage.specs.Counts.{positions_from}
use Rattle.tensor_storage.specs.Laws.{laws}
use Rattle.tensor_storage.specs.Levels.{meaning}
use Rattle.tensor_storage.specs.Tables.{Table}
use Rattle.tensor_storage.proofs.Steps.{new_is}
use Rattle.tensor_storage.proofs.Tables.{apart}
use Rattle.result_assembly.specs.Drained.{MayDrain, AreDrained, PassesAt}
use Rattle.result_assembly.proofs.KindLaws.{width_held}
use Rattle.result_assembly.specs.Tests.{begins_test}
use Rattle.result_assembly.proofs.Holding.{inserted_summed}
use Rattle.result_assembly.proofs.Steps.{size_here, rows_here, few_words, begun_here, fill_here, first_told, coord_told}
use Rattle.result_assembly.proofs.Steps.{told_here, packed_here, drained_here}

one_more_at_most : (b : Bool) (x n : ℕ) → x ≤ n → (if b then x + 1 else x) ≤ suc n
one_more_at_most true x n h = omega (arith, h)
one_more_at_most false x n h = omega (arith, h)

pub below_few : (rows : Rows) (p n : ℕ) → begun_below rows p n ≤ n
below_few rows p zero = omega arith
below_few rows p (suc n) =
    one_more_at_most (rows.first n && (rows.parent n == p)) (begun_below rows p n) n (below_few rows p n)

-- no more positions are begun below one parent than there are rows
pub greatest_few : (rows : Rows) (most : ℕ) → IsGreatestBelow rows most → most ≤ rows.count
greatest_few rows most is = by_reached is.reached
  where
    by_reached : (most ≡ 0) ⊎ ((i : ℕ) × (i < rows.count) × (begun_below rows (rows.parent i) rows.count ≡ most)) → most ≤ rows.count
    by_reached (inl none) = omega (arith, none)
    by_reached (inr at) = let few = below_few rows (rows.parent at.0) rows.count in let same = at.2 in omega (arith, few, same)

module _ (letters rest : List Letter) (letter : Letter) (w g d n base : ℕ) (count most_is : KExpr)
    (left : drop d letters ≡ letter ∷ rest) (through : n ≡ d + chain_length (letter ∷ rest)) (able : (capabilities letter).append ≡ false)
    (nothing : ℕ) (sizes : List ℕ) (table : Table) (may : MayDrain letters sizes table)
    (s : State) (dr : AreDrained nothing letters sizes table w g d count s) (most : ℕ) where
  abbrev rows : Rows
  rows = rows_here letters rest letter w g d n count left through nothing sizes table may s dr

  abbrev size : ℕ
  size = size_here letters rest letter w g d n count left through nothing sizes table may s dr

  pub start : HoldsStart meaning letter size dr.starts 0 (suc d) s.arrays
  start = begun_here letters rest letter w g d n count left through nothing sizes table may s dr

  module _ (greatest : (properties letter).full ≡ false → IsGreatestBelow rows most)
      (none : (properties letter).full ≡ true → most ≡ 0) where
    abbrev pub needed : ℕ
    needed = positions_for (meaning.kind start.start) (meaning.size start.start) dr.parents most

    unable : (capabilities (meaning.kind start.start)).append ≡ false
    unable = ap (λ k. (capabilities k).append) start.kind ∙ able

    need : AreNeeded (meaning.kind start.start) (meaning.size start.start) dr.parents rows needed most
    need = record {
      appended = λ is. apart (sym is ∙ unable);
      inserted = λ no. refl;
      greatest = λ no sparse. greatest (ap (λ k. (properties k).full) (sym start.kind) ∙ sparse);
      full = λ is. none (ap (λ k. (properties k).full) (sym start.kind) ∙ is);
    }

    pub needed_is : needed ≡ positions_for letter size dr.parents most
    needed_is = ap (λ k. positions_for k (meaning.size start.start) dr.parents most) start.kind
        ∙ ap (λ m. positions_for letter m dr.parents most) start.size

    pub told_level : slice_index (positions_from table 0 1 letters sizes) d ≡ needed
    told_level = told_here letters rest letter w g d n count left through nothing sizes table may s dr start.start start.kind start.size
        most needed need

    pub refused_at : (a : Arr) (k : ℕ) → PassesLimitWithin 0 (suc d) needed a k → PassesAt letters sizes table d a k
    refused_at a k r = record {
      array = inl r.1.array;
      above = (let is = r.1.told in let over = r.1.above in omega (arith, is, over));
      within = (let is = r.1.told in let upto = r.2 in let told = told_level in omega (arith, is, upto, told));
    }

    pub may_insert : MayInsertRows (meaning.size start.start) dr.parents rows
    may_insert =
        let new = new_is letter size in
        let f = (fill_here letters rest letter w g d n count left through nothing sizes table may s dr).inserts
        (ap (λ k. (capabilities k).append) new.kind ∙ able) in
        subst (λ m. MayInsertRows m dr.parents rows) (sym start.size)
        (subst (λ m. MayInsertRows m dr.parents rows) new.size_is f.0)

    given : value most_is s ≡ Some most
        → MayPlace (suc d) (base + 1) w g dr.parents most count most_is (begins_test (base + 1) w n) (At (Key w d) (Var (base + 1))) rows s
    given is = record {
      few = few_words letters rest letter w g d n count left through nothing sizes table may s dr;
      parents_value = dr.told;
      most_value = is;
      first = first_told letters rest letter w g d n count left through nothing sizes table may s dr (base + 1);
      coord_value = coord_told letters rest letter w g d n count left through nothing sizes table may s dr (base + 1);
      values = dr.rows.sums.words;
      values_are = dr.rows.sums.held;
      many = dr.rows.sums.many;
      positions = dr.positions;
      places = dr.places;
      length_is = dr.packed.many;
      parents_are = λ i h. refl;
    }

    module _ (total : ℕ) (stands : s.vars base ≡ Some total)
        (counted : positions_for letter size dr.parents most ≤ greatest_position_count → total ≡ positions_for letter size dr.parents most)
      where
        pub after : (t : State) → LeavesPlaced meaning start.start (suc d) g (base + 1) dr.parents most rows s t
            → AreDrained nothing letters sizes table w g (suc d) (Var base) t
        after t l =
            drained_here letters rest letter w g d n count left through nothing sizes table may s dr t (λ a st. l.leaves.arrays a st) l.left
            l.positions needed (Var base)
            (packed_here letters rest letter w g d n count left through nothing sizes table may s dr start.start start.kind start.size most
            needed need l.positions l.left fits fills)
            fits
            (l.leaves.below base (omega arith) (λ e. e) ∙ stands
            ∙ ap Some (counted (let same = needed_is in let f = fits in omega (arith, same, f)) ∙ sym needed_is))
            (inserted_summed l.left (suc d) t.arrays (ap (λ k. (capabilities k).append) l.inserted.takes.kind ∙ unable) l.held)
            l.places
            (let b = starts_within letter size dr.starts dr.parents most dr.begun in let same = needed_is in omega (arith, b, same))
          where
            -- each parent's positions are within the limit
            fits : needed ≤ greatest_position_count
            fits = by_parents dr.parents refl
              where
                by_parents : (p : ℕ) → dr.parents ≡ p → needed ≤ greatest_position_count
                by_parents zero is =
                    let empty = ap (λ p. positions_for (meaning.kind start.start) (meaning.size start.start) p most) is
                    ∙ no_positions (meaning.kind start.start) (meaning.size start.start) most in omega (arith, empty)
                by_parents (suc q) is =
                    let stored = l.inserted.takes.stored in
                    let end = stored.ends q (omega (arith, is)) in
                    let allowed = laws.parents l.left dr.parents q stored.has_parents (omega (arith, is)) in
                    let few = (laws.entries l.left (one q) allowed).positions in omega (arith, end, few)

            fills : FillsRows meaning dr.parents most rows l.positions start.start l.left
            fills = record { appended = λ is. apart (sym is ∙ unable); inserted = λ no. l.inserted }

        -- what the code does
        pub inserted : (c : Setting) (code : List KStmt)
            → PlacesRows meaning letter (suc d) (base + 1) w g count most_is (begins_test (base + 1) w n)
            (At (Key w d) (Var (base + 1))) code
            → value most_is s ≡ Some most → most ≤ greatest_position_count
            → ((properties letter).full ≡ true → positions_for letter size dr.parents most ≤ greatest_position_count)
            → Does c code s (λ t. AreDrained nothing letters sizes table w g (suc d) (Var base) t
            × Leaves NoVariable (Stays (suc d) g) (base + 1) (insert_turns (probes_each letter most) rows.count) s t
            × ((properties letter).full ≡ false → t.arrays (Width 0 (suc d)) ≡ Some (slot_width most ∷ [])))
            (RefusedWithin (insert_turns (probes_each letter most) rows.count) s (PassesAt letters sizes table d))
        inserted c code places is few guarded =
            does_weaker c code s _ _ _ _
            (places c start.start start.kind start.keeps rows dr.parents most
            (record {
              able = ap (λ k. (capabilities k).insert) start.kind ∙ inserted_else letter able;
              unprepared = start.width;
              coordinates = few;
            })
            (λ full. let g = guarded (ap (λ k. (properties k).full) (sym start.kind) ∙ full) in let same = needed_is in
            omega (arith, g, same))
            may_insert
            (λ sparse p less. (greatest (ap (λ k. (properties k).full) (sym start.kind) ∙ sparse)).upto p)
            s start.held (given is))
            (λ t l. (
              after t l,
              subst (λ k. Leaves NoVariable (Stays (suc d) g) (base + 1) (insert_turns (probes_each k most) rows.count) s t) start.kind
                  l.leaves,
              λ stored. width_held l.left (suc d) (slot_width most) t.arrays l.held
                  (l.width (ap (λ k. (properties k).full) start.kind ∙ stored)),
            ))
            (λ turns a k r. (
              subst (λ kind. (j : LoopKind) → turns j ≤ s.turns j + insert_turns (probes_each kind most) rows.count j) start.kind r.0,
              refused_at a k r.1,
            ))
