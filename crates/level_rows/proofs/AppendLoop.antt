-- The loop that appends rows: what holds of the level after each step, and when it is finished.
use Rattle.std.specs.Prelude.{◌≡◌, ◌≢◌, ◌⊎◌, ℕ, suc, ◌+◌, ◌-◌, ◌≤◌, ◌<◌, nat_lt, Bool, true, false, if◌then◌else◌, List, length}
use Rattle.std.specs.Prelude.{slice_index, slice_set, refl}
use Rattle.std.proofs.Common.{◌∙◌, sym, ap, subst, arith, inl, inr}
use Rattle.std.proofs.lemmas.Bool.{cases_lt}
use Rattle.std.proofs.lemmas.Bool.Decides.{nat_tests}
use Rattle.std.proofs.lemmas.List.{get_or-set_same, get_or-set_other, length-set, length_push}
use Rattle.limits.specs.Limits.{greatest_position_count}
use Rattle.level_core.specs.Kinds.{properties}
use Rattle.level_core.specs.Logs.{IsLog, MayAppend, MayAppendEdges, MayFinish, with_parents, with_edges, nothing_reserved}
use Rattle.level_core.specs.Meaning.{Meaning, ChangesLog, Finishes}
use Rattle.level_core.specs.Laws.{Laws}
use Rattle.level_rows.specs.Rows.{Rows, begun, place, MayAppendRows}
use Rattle.level_rows.specs.Taken.{AppendsRows}
use Rattle.level_rows.specs.Appending.{Cursor, turned, turned_log, added, added_log, closed_log}
use Rattle.level_rows.proofs.Progress.{Progress, Filled, Placing}
use Rattle.level_rows.proofs.RowLaws.{begun_yes, begun_no, begun_upto}
use Rattle.level_rows.proofs.Stored.{filled_stores}
use Rattle.level_rows.proofs.AppendSteps.{Stands, stands_none, stands_more, none_done, may_turn, turns, turned_count, turned_last}
use Rattle.level_rows.proofs.AppendSteps.{turned_coords, may_add, adds, fills, may_finish}

-- while rows are appended: the level, the cursor and the list of positions after so many of them
pub record Filling {L : Type 0} (means : Meaning L) (parents done spare : ℕ) (at : Cursor) (rows : Rows) (positions : List ℕ)
    (old new : L) : Type 0 where
  pub keeps : means.keeps new
  pub kind : means.kind new ≡ means.kind old
  pub size : means.size new ≡ means.size old
  pub progress : Progress (means.kind old) parents done at.last at.begin rows (means.log new)
  pub stands : Stands done at.last rows
  pub count : at.count ≡ length (means.log new).coords
  pub enough : begun rows.first rows.count ≤ begun rows.first done + spare
  pub placing : Placing done rows (place rows.first) positions
  pub upto : done ≤ rows.count

-- the same once the last parent was turned from
pub record Turned {L : Type 0} (means : Meaning L) (parents done spare : ℕ) (at : Cursor) (rows : Rows) (old new : L) : Type 0 where
  pub keeps : means.keeps new
  pub kind : means.kind new ≡ means.kind old
  pub size : means.size new ≡ means.size old
  pub progress : Progress (means.kind old) parents done (rows.parent done) at.begin rows (means.log new)
  pub last : at.last ≡ rows.parent done
  pub count : at.count ≡ length (means.log new).coords
  pub enough : begun rows.first rows.count ≤ begun rows.first done + spare

-- a row that begins a position begins one of those that are left
one_left : (rows : Rows) (n : ℕ) → n < rows.count → rows.first n ≡ true → begun rows.first n + 1 ≤ begun rows.first rows.count
one_left rows n h is = let one = begun_yes rows n is in let more = begun_upto rows (suc n) rows.count (omega (arith, h)) in
    omega (arith, one, more)

-- one more row is placed
pub placed_more : (done : ℕ) (rows : Rows) (place : ℕ → ℕ) (positions : List ℕ) (p : ℕ) → Placing done rows place positions
    → done < rows.count → p ≡ place done → Placing (suc done) rows place (slice_set positions done p)
placed_more done rows place positions p k h is = record {
  many = length-set positions done p ∙ k.many;
  behind = λ i l. by_order i l (cases_lt i done);
  ahead = λ i from l. get_or-set_other positions done i p 0 (λ same. omega (arith, same, from)) ∙ k.ahead i (omega (arith, from)) l;
}
  where
    by_order : (i : ℕ) → i < suc done → (i < done) ⊎ (done ≤ i) → slice_index (slice_set positions done p) i ≡ place i
    by_order i l (inl before) = get_or-set_other positions done i p 0 (λ same. omega (arith, same, before)) ∙ k.behind i before
    by_order i l (inr from) =
        let here : i ≡ done = omega (arith, l, from) in
        let many = k.many in
        ap (slice_index (slice_set positions done p)) here ∙ get_or-set_same positions done p 0 (omega (arith, many, h)) ∙ is
        ∙ ap place (sym here)

module _ {L : Type 0} (means : Meaning L) (laws : Laws means) (parents : ℕ) (rows : Rows) (old : L)
    (may : MayAppendRows (means.kind old) (means.size old) parents rows) where
  logs : (l : L) → means.keeps l → means.kind l ≡ means.kind old → (properties (means.kind old)).branchless ≡ false → IsLog (means.log l)
  logs l keeps kind b = laws.logs l keeps (ap (λ k. (properties k).branchless) kind ∙ b)

  pub begins : (most spare : ℕ) (positions : List ℕ) (l : L)
      → ChangesLog means (with_parents (means.kind old) parents (means.log old)) old l → means.log old ≡ nothing_reserved → means.keeps l
      → most ≡ begun rows.first rows.count → most ≤ spare → length positions ≡ rows.count
      → ((i : ℕ) → slice_index positions i ≡ rows.parent i)
      → Filling means parents 0 spare (record { last = 0; begin = 0; count = 0 }) rows positions old l
  begins most spare positions l changes fresh keeps is enough many parents_are =
      let log : means.log l ≡ with_parents (means.kind old) parents nothing_reserved = changes.log
      ∙ ap (with_parents (means.kind old) parents) fresh in
      record {
        keeps = keeps;
        kind = changes.kind;
        size = changes.size;
        progress = none_done (means.kind old) parents rows (means.log l) log (logs l keeps changes.kind);
        stands = stands_none rows;
        count = sym (ap (λ g. length g.coords) log);
        enough = omega (arith, is, enough);
        placing = record { many = many; behind = λ i h. absurd (omega (arith, h)); ahead = λ i from h. parents_are i };
        upto = omega arith;
      }

  module _ (done spare : ℕ) (at : Cursor) (positions : List ℕ) (l : L) (f : Filling means parents done spare at rows positions old l) where
    pub next_is : done < rows.count → slice_index positions done ≡ rows.parent done
    next_is h = f.placing.ahead done (omega arith) h

    last_within : at.last ≢ rows.parent done → done < rows.count → at.last < parents
    last_within other h = let b = f.stands.behind h in let w = may.order.within done h in omega (arith, b, w)

    pub may_turn_to : (next : ℕ) → next ≡ rows.parent done → done < rows.count → at.last ≢ next
        → MayAppendEdges (means.kind l) at.last at.begin at.count (means.log l)
    may_turn_to next is h other = subst (λ k. MayAppendEdges k at.last at.begin at.count (means.log l)) (sym f.kind)
        (may_turn (means.kind old) parents done at rows (means.log l) f.progress (last_within (λ same. other (same ∙ sym is)) h) f.count)

    pub turned_to : (next spare_then : ℕ) (then_at : Cursor) (m : L) → next ≡ rows.parent done → done < rows.count
        → then_at ≡ turned at next → ChangesLog means (turned_log (means.kind l) at next (means.log l)) l m → means.keeps m
        → spare_then ≡ spare → Turned means parents done spare_then then_at rows old m
    turned_to next spare_then then_at m is h at_is changes keeps left =
        let log : means.log m ≡ turned_log (means.kind old) at (rows.parent done) (means.log l) = changes.log
        ∙ ap (λ k. turned_log k at next (means.log l)) f.kind ∙ ap (λ n. turned_log (means.kind old) at n (means.log l)) is in
        let kind = changes.kind ∙ f.kind in
        let at_there : then_at ≡ turned at (rows.parent done) = at_is ∙ ap (turned at) is in
        record {
          keeps = keeps;
          kind = kind;
          size = changes.size ∙ f.size;
          progress = subst (λ t. Progress (means.kind old) parents done (rows.parent done) t.begin rows (means.log m)) (sym at_there)
              (subst (Progress (means.kind old) parents done (rows.parent done) (turned at (rows.parent done)).begin rows) (sym log)
              (turns (means.kind old) (means.size old) parents done at rows (means.log l) may h (f.stands.behind h) f.count f.progress
              (λ b. subst IsLog log (logs m keeps kind b))));
          last = ap (λ t. t.last) at_there ∙ turned_last at (rows.parent done);
          count = ap (λ t. t.count) at_there ∙ turned_count at (rows.parent done) ∙ f.count
              ∙ sym (ap length (turned_coords (means.kind old) at (rows.parent done) (means.log l))) ∙ sym (ap (λ g. length g.coords) log);
          enough = let e = f.enough in omega (arith, e, left);
        }

  module _ (done spare : ℕ) (at : Cursor) (m : L) (f : Turned means parents done spare at rows old m) where
    pub may_append : (b : Bool) (x : ℕ) → done < rows.count → b ≡ rows.first done → x ≡ rows.coord done → b ≡ true
        → MayAppend (means.kind m) (means.size m) x (means.log m)
    may_append b x h first coord is =
        subst (λ y. MayAppend (means.kind m) (means.size m) y (means.log m)) (sym coord)
        (subst (λ k. MayAppend k (means.size m) (rows.coord done) (means.log m)) (sym f.kind)
        (subst (λ n. MayAppend (means.kind old) n (rows.coord done) (means.log m)) (sym f.size)
        (may_add (means.kind old) (means.size old) parents done at.begin rows (means.log m) may h (sym first ∙ is) f.progress)))

    pub is_spare : (b : Bool) → done < rows.count → b ≡ rows.first done → b ≡ true → 0 < spare
    is_spare b h first is = let one = one_left rows done h (sym first ∙ is) in let e = f.enough in omega (arith, one, e)

    pub is_room : (b : Bool) → done < rows.count → b ≡ rows.first done → begun rows.first rows.count ≤ greatest_position_count → b ≡ true
        → length (means.log m).coords < greatest_position_count
    is_room b h first few is = let one = one_left rows done h (sym first ∙ is) in let many = f.progress.appended.many in
        omega (arith, one, many, few)

    next : (b : Bool) (x : ℕ) (k : L) → b ≡ rows.first done → x ≡ rows.coord done → ChangesLog means (added_log b x (means.log m)) m k
        → means.log k ≡ added_log (rows.first done) (rows.coord done) (means.log m)
    next b x k first coord changes = changes.log ∙ ap (λ t. added_log t x (means.log m)) first
        ∙ ap (λ y. added_log (rows.first done) y (means.log m)) coord

    progress_then : (b : Bool) (x : ℕ) (k : L) → done < rows.count → b ≡ rows.first done → x ≡ rows.coord done
        → ChangesLog means (added_log b x (means.log m)) m k → means.keeps k
        → Progress (means.kind old) parents (suc done) (rows.parent done) at.begin rows (means.log k)
    progress_then b x k h first coord changes keeps =
        let log = next b x k first coord changes in
        subst (Progress (means.kind old) parents (suc done) (rows.parent done) at.begin rows) (sym log)
        (adds (means.kind old) (means.size old) parents done at.begin rows (means.log m) may h f.progress
        (λ c. subst IsLog log (logs k keeps (changes.kind ∙ f.kind) c)))

    count_then : (b : Bool) (x : ℕ) (then_at : Cursor) (k : L) → b ≡ rows.first done → x ≡ rows.coord done → then_at ≡ added at b
        → ChangesLog means (added_log b x (means.log m)) m k → then_at.count ≡ length (means.log k).coords
    count_then b x then_at k first coord at_is changes = ap (λ t. t.count) at_is ∙ by_first b ∙ sym (ap (λ g. length g.coords) changes.log)
      where
        by_first : (t : Bool) → (added at t).count ≡ length (added_log t x (means.log m)).coords
        by_first true = let c = f.count in let long = length_push (means.log m).coords x in omega (arith, c, long)
        by_first false = f.count

    at_same : (b : Bool) (then_at : Cursor) → then_at ≡ added at b → (then_at.last ≡ at.last) × (then_at.begin ≡ at.begin)
    at_same b then_at is = (ap (λ t. t.last) is ∙ by_first b, ap (λ t. t.begin) is ∙ by_begin b)
      where
        by_first : (t : Bool) → (added at t).last ≡ at.last
        by_first true = refl
        by_first false = refl

        by_begin : (t : Bool) → (added at t).begin ≡ at.begin
        by_begin true = refl
        by_begin false = refl

    pub count_some : (b : Bool) (x : ℕ) (then_at : Cursor) (k : L) → done < rows.count → b ≡ rows.first done → x ≡ rows.coord done
        → then_at ≡ added at b → ChangesLog means (added_log b x (means.log m)) m k → means.keeps k
        → then_at.count ≡ begun rows.first (suc done)
    count_some b x then_at k h first coord at_is changes keeps =
        count_then b x then_at k first coord at_is changes ∙ (progress_then b x k h first coord changes keeps).appended.many

    pub filled_more : (b : Bool) (x spare_then : ℕ) (then_at : Cursor) (positions : List ℕ) (k : L) → done < rows.count
        → b ≡ rows.first done → x ≡ rows.coord done → then_at ≡ added at b
        → ChangesLog means (added_log b x (means.log m)) m k → means.keeps k → spare_then + (if b then 1 else 0) ≡ spare
        → Placing done rows (place rows.first) positions
        → Filling means parents (done + 1) spare_then then_at rows (slice_set positions done (then_at.count - 1)) old k
    filled_more b x spare_then then_at positions k h first coord at_is changes keeps left placing =
        let next_done : suc done ≡ done + 1 = omega arith in
        let same = at_same b then_at at_is in
        let last : then_at.last ≡ rows.parent done = same.0 ∙ f.last in
        subst (λ n. Filling means parents n spare_then then_at rows (slice_set positions done (then_at.count - 1)) old k) next_done
        (record {
          keeps = keeps;
          kind = changes.kind ∙ f.kind;
          size = changes.size ∙ f.size;
          progress = subst (λ p. Progress (means.kind old) parents (suc done) p then_at.begin rows (means.log k)) (sym last)
              (subst (λ q. Progress (means.kind old) parents (suc done) (rows.parent done) q rows (means.log k)) (sym same.1)
              (progress_then b x k h first coord changes keeps));
          stands = subst (λ p. Stands (suc done) p rows) (sym last)
              (stands_more (properties (means.kind old)).unique (means.size old) parents done rows may.order);
          count = count_then b x then_at k first coord at_is changes;
          enough = by_first (rows.first done) refl;
          placing = placed_more done rows (place rows.first) positions (then_at.count - 1) placing h
              (ap (λ n. n - 1) (count_some b x then_at k h first coord at_is changes keeps));
          upto = omega (arith, h);
        })
      where
        by_first : (t : Bool) → rows.first done ≡ t → begun rows.first rows.count ≤ begun rows.first (suc done) + spare_then
        by_first true is = let step = begun_yes rows done is in let e = f.enough in
            let took : spare_then + 1 ≡ spare = subst (λ t. spare_then + (if t then 1 else 0) ≡ spare) (first ∙ is) left in
            omega (arith, step, e, took)
        by_first false is = let step = begun_no rows done is in let e = f.enough in
            let took : spare_then + 0 ≡ spare = subst (λ t. spare_then + (if t then 1 else 0) ≡ spare) (first ∙ is) left in
            omega (arith, step, e, took)

  module _ (spare : ℕ) (at : Cursor) (positions : List ℕ) (l : L) (f : Filling means parents rows.count spare at rows positions old l) where
    last_is : (some : Bool) → some ≡ nat_lt 0 rows.count → (i : ℕ) → rows.count ≡ suc i → (some ≡ true) × (at.last ≡ rows.parent i)
    last_is some is i more = (is ∙ (let k : nat_lt 0 rows.count ≡ true = grind (arith, nat_tests, more) in k), f.stands.at i more)

    some_rows : (some : Bool) → some ≡ nat_lt 0 rows.count → some ≡ true → 0 < rows.count
    some_rows some is there = let k : nat_lt 0 rows.count ≡ true = sym is ∙ there in grind (arith, nat_tests, k)

    pub may_close : (some : Bool) → some ≡ nat_lt 0 rows.count → some ≡ true
        → MayAppendEdges (means.kind l) at.last at.begin at.count (means.log l)
    may_close some is there =
        let more = some_rows some is there in
        let before : rows.count ≡ suc (rows.count - 1) = omega (arith, more) in
        let at_last = f.stands.at (rows.count - 1) before in
        let within = may.order.within (rows.count - 1) (omega (arith, more)) in
        subst (λ k. MayAppendEdges k at.last at.begin at.count (means.log l)) (sym f.kind)
        (may_turn (means.kind old) parents rows.count at rows (means.log l) f.progress (omega (arith, at_last, within)) f.count)

    filled : (some : Bool) (given : L) → some ≡ nat_lt 0 rows.count
        → ChangesLog means (closed_log (means.kind l) at some (means.log l)) l given → means.keeps given
        → Filled parents rows (means.log given)
    filled some given is changes keeps =
        let log_is : means.log given ≡ closed_log (means.kind old) at some (means.log l) = changes.log
        ∙ ap (λ k. closed_log k at some (means.log l)) f.kind in
        subst (Filled parents rows) (sym log_is)
        (fills (means.kind old) (means.size old) parents at some rows (means.log l) may (last_is some is) (some_rows some is) f.count
        f.progress (λ there b. edges there log_is b))
      where
        edges : some ≡ true → means.log given ≡ closed_log (means.kind old) at some (means.log l)
            → (properties (means.kind old)).branchless ≡ false → IsLog (with_edges (means.kind old) at.last at.begin at.count (means.log l))
        edges there log_is b = subst IsLog (log_is ∙ ap (λ t. closed_log (means.kind old) at t (means.log l)) there)
            (logs given keeps (changes.kind ∙ f.kind) b)

    pub may_finish_it : (some : Bool) (given : L) → some ≡ nat_lt 0 rows.count
        → ChangesLog means (closed_log (means.kind l) at some (means.log l)) l given → means.keeps given
        → MayFinish parents (means.log given)
    may_finish_it some given is changes keeps = may_finish parents rows (means.log given) (filled some given is changes keeps)

    pub appends : (some : Bool) (given new : L) → some ≡ nat_lt 0 rows.count
        → ChangesLog means (closed_log (means.kind l) at some (means.log l)) l given → means.keeps given → Finishes means parents given new
        → AppendsRows means parents rows positions old new
    appends some given new is changes keeps finishes = record {
      takes = record {
        keeps = finishes.keeps;
        kind = kind_new;
        size = finishes.size ∙ (changes.size ∙ f.size);
        many = f.placing.many;
        stored = filled_stores means laws (means.kind old) (means.size old) parents rows (slice_index positions) given new may kind all
            finishes f.placing.behind;
      };
      numbered = f.placing.behind;
    }
      where
        kind : means.kind given ≡ means.kind old
        kind = changes.kind ∙ f.kind

        all : Filled parents rows (means.log given)
        all = filled some given is changes keeps

        kind_new : means.kind new ≡ means.kind old
        kind_new = finishes.kind ∙ kind
