-- The loop that appends the rows of one parent at once: what holds of the level after each step.
use Rattle.std.specs.Prelude.{◌≡◌, ◌⊎◌, ℕ, suc, ◌+◌, ◌-◌, ◌≤◌, ◌<◌, true, List, ◌++◌, length, slice_index}
use Rattle.std.proofs.Common.{◌∙◌, sym, ap, subst, arith, inl, inr}
use Rattle.std.proofs.lemmas.Bool.{cases_lt}
use Rattle.std.proofs.lemmas.List.{length-append}
use Rattle.limits.specs.Limits.{greatest_position_count}
use Rattle.level_core.specs.Kinds.{properties}
use Rattle.level_core.specs.Logs.{MayAppendAll, with_coords}
use Rattle.level_core.specs.Meaning.{Meaning, ChangesLog}
use Rattle.level_core.specs.Laws.{Laws}
use Rattle.level_rows.specs.Rows.{Rows, begun, place, MayAppendRows}
use Rattle.level_rows.specs.Appending.{Cursor, AreNumbered}
use Rattle.level_rows.proofs.Progress.{Progress, Placing}
use Rattle.level_rows.proofs.RowLaws.{begun_all}
use Rattle.level_rows.proofs.AppendLoop.{Filling, Turned}
use Rattle.level_rows.proofs.AppendSteps.{Stands, stands_more}
use Rattle.level_rows.proofs.RunSteps.{IsRun, runs, may_run}

module _ (rows : Rows) (all : (i : ℕ) → i < rows.count → rows.first i ≡ true) where
  -- as many positions are begun as there are rows
  begun_here : (n : ℕ) → n ≤ rows.count → begun rows.first n ≡ n
  begun_here n h = begun_all rows.first n (λ i l. all i (omega (arith, h, l)))

  -- each row's position is its number
  pub place_here : (i : ℕ) → i < rows.count → place rows.first i ≡ i
  place_here i h = let k = begun_here (suc i) (omega (arith, h)) in omega (arith, k)

  placed_run : (done end : ℕ) (positions then_positions : List ℕ) → Placing done rows (place rows.first) positions → done ≤ end
      → end ≤ rows.count → AreNumbered done end positions then_positions → Placing end rows (place rows.first) then_positions
  placed_run done end positions then_positions p order within n = record {
    many = n.long ∙ p.many;
    behind = λ i h. by_order i h (cases_lt i done);
    ahead = λ i from h. n.behind i from ∙ p.ahead i (omega (arith, from, order)) h;
  }
    where
      by_order : (i : ℕ) → i < end → (i < done) ⊎ (done ≤ i) → slice_index then_positions i ≡ place rows.first i
      by_order i h (inl before) = n.before i before ∙ p.behind i before
      by_order i h (inr from) = n.own i from h ∙ sym (place_here i (omega (arith, h, within)))

module _ {L : Type 0} (means : Meaning L) (laws : Laws means) (parents : ℕ) (rows : Rows) (old : L)
    (may : MayAppendRows (means.kind old) (means.size old) parents rows) (all : (i : ℕ) → i < rows.count → rows.first i ≡ true) where
  module _ (done spare : ℕ) (at : Cursor) (m : L) (f : Turned means parents done spare at rows old m) (xs : List ℕ)
      (r : IsRun rows done (rows.parent done) xs) where
    pub may_append_run : MayAppendAll (means.kind m) (means.size m) xs (means.log m)
    may_append_run =
        subst (λ k. MayAppendAll k (means.size m) xs (means.log m)) (sym f.kind)
        (subst (λ n. MayAppendAll (means.kind old) n xs (means.log m)) (sym f.size)
        (may_run (means.kind old) (means.size old) parents done (rows.parent done) at.begin rows xs (means.log m) may r f.progress))

    pub run_spare : length xs ≤ spare
    run_spare =
        let w = r.within in
        let e = f.enough in
        let whole = begun_here rows all rows.count (omega arith) in
        let here = begun_here rows all done (omega (arith, w)) in
        omega (arith, w, e, whole, here)

    pub run_room : begun rows.first rows.count ≤ greatest_position_count
        → length (means.log m).coords + length xs ≤ greatest_position_count
    run_room few =
        let w = r.within in
        let many = f.progress.appended.many in
        let whole = begun_here rows all rows.count (omega arith) in
        let here = begun_here rows all done (omega (arith, w)) in
        omega (arith, w, many, whole, here, few)

    pub run_filled : (end spare_then : ℕ) (then_at : Cursor) (positions then_positions : List ℕ) (k : L) → end ≡ done + length xs
        → done < end → then_at ≡ record at { count = at.count + length xs } → ChangesLog means (with_coords xs (means.log m)) m k
        → means.keeps k → spare_then + length xs ≡ spare → Placing done rows (place rows.first) positions
        → AreNumbered done end positions then_positions → Filling means parents end spare_then then_at rows then_positions old k
    run_filled end spare_then then_at positions then_positions k ends some at_is changes keeps left placing numbered = record {
      keeps = keeps;
      kind = changes.kind ∙ f.kind;
      size = changes.size ∙ f.size;
      progress = subst (λ n. Progress (means.kind old) parents n then_at.last then_at.begin rows (means.log k)) (sym ends)
          (subst (λ p. Progress (means.kind old) parents (done + length xs) p then_at.begin rows (means.log k)) (sym last)
          (subst (λ q. Progress (means.kind old) parents (done + length xs) (rows.parent done) q rows (means.log k))
          (sym (ap (λ t. t.begin) at_is))
          (subst (Progress (means.kind old) parents (done + length xs) (rows.parent done) at.begin rows) (sym changes.log)
          (runs (means.kind old) (means.size old) parents done (rows.parent done) at.begin rows xs (means.log m) may r f.progress))));
      stands = subst (λ n. Stands n then_at.last rows) before
          (subst (λ p. Stands (suc (end - 1)) p rows) last_parent
          (stands_more (properties (means.kind old)).unique (means.size old) parents (end - 1) rows may.order));
      count = ap (λ t. t.count) at_is
          ∙ (let c = f.count in let long = length-append (means.log m).coords xs in
          let more : at.count + length xs ≡ length ((means.log m).coords ++ xs) = omega (arith, c, long) in more)
          ∙ sym (ap (λ g. length g.coords) changes.log);
      enough =
          let e = f.enough in
          let here = begun_here rows all done (omega (arith, within)) in
          let then = begun_here rows all end (omega (arith, within, ends)) in
          omega (arith, e, here, then, ends, left);
      placing = placed_run rows all done end positions then_positions placing (omega (arith, some)) (omega (arith, within, ends)) numbered;
      upto = omega (arith, within, ends);
    }
      where
        within : done + length xs ≤ rows.count
        within = r.within

        last : then_at.last ≡ rows.parent done
        last = ap (λ t. t.last) at_is ∙ f.last

        before : suc (end - 1) ≡ end
        before = omega (arith, some)

        last_row : done + (length xs - 1) ≡ end - 1
        last_row = omega (arith, ends, some)

        last_parent : rows.parent (end - 1) ≡ then_at.last
        last_parent = sym (ap rows.parent last_row) ∙ r.parents (length xs - 1) (omega (arith, ends, some)) ∙ sym last
