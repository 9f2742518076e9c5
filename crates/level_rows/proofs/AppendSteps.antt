-- How far the rows are appended, after each step of the loop.
use Rattle.std.specs.Prelude.{◌≡◌, ◌≢◌, ℕ, zero, suc, ◌+◌, ◌-◌, ◌≤◌, ◌<◌, ◌==◌, Bool, true, false, if◌then◌else◌, [], length, drop}
use Rattle.std.specs.Prelude.{replicate, slice_set, refl}
use Rattle.std.proofs.Common.{◌∙◌, sym, ap, subst, arith, inl}
use Rattle.std.proofs.lemmas.Bool.Decides.{nat_tests}
use Rattle.std.proofs.lemmas.List.{length-replicate}
use Rattle.level_core.specs.declared.letter.Letter.{Letter}
use Rattle.level_core.specs.Kinds.{properties}
use Rattle.level_core.specs.Logs.{Log, total, ungiven, Rises, IsLog, MayAppend, MayAppendEdges, MayFinish, with_parents, with_coord}
use Rattle.level_core.specs.Logs.{with_edges, nothing_reserved}
use Rattle.level_rows.specs.Rows.{Rows, InOrder, MayAppendRows}
use Rattle.level_rows.specs.Appending.{Cursor, turned, turned_log, added_log, closed_log}
use Rattle.level_rows.proofs.Progress.{Progress, Filled}
use Rattle.level_rows.proofs.Steps.{Branching, parents_rise, may_come, given_edges, row_first, row_again, all_filled, none_filled}
use Rattle.level_rows.proofs.Steps.{appended_more, appended_same}
use Rattle.level_rows.proofs.Branchless.{branchless_filled}

apart : true ≡ false → ⊥
apart e = cc

-- a level is branchless or not
by_kind : {A : Type 0} (letter : Letter) → ((properties letter).branchless ≡ false → A) → ((properties letter).branchless ≡ true → A) → A
by_kind {A} letter branches without = by_case (properties letter).branchless refl
  where
    by_case : (b : Bool) → (properties letter).branchless ≡ b → A
    by_case true is = without is
    by_case false is = branches is

branching : (letter : Letter) (parents n last begin : ℕ) (rows : Rows) (log : Log) → (properties letter).branchless ≡ false
    → Progress letter parents n last begin rows log → Branching (properties letter).unique parents n last begin rows log
branching letter parents n last begin rows log b p =
    record { stage = p.stage; reserved = p.reserved; appended = p.appended; given = p.given b }

progress : (letter : Letter) (parents n last begin : ℕ) (rows : Rows) (log : Log) → (properties letter).branchless ≡ false
    → Branching (properties letter).unique parents n last begin rows log → Progress letter parents n last begin rows log
progress letter parents n last begin rows log b p =
    record { stage = p.stage; reserved = p.reserved; appended = p.appended; given = λ _. p.given; ones = λ is. absurd (apart (sym is ∙ b)) }

total_zeros : (k : ℕ) → total (replicate k 0) ≡ 0
total_zeros zero = refl
total_zeros (suc k) = let j = total_zeros k in omega (arith, j)

-- before the first row
pub none_done : (letter : Letter) (parents : ℕ) (rows : Rows) (log : Log) → log ≡ with_parents letter parents nothing_reserved
    → ((properties letter).branchless ≡ false → IsLog log) → Progress letter parents 0 0 0 rows log
none_done letter parents rows log is tells = record {
  stage = ap (λ l. l.stage) is;
  reserved = ap length counts ∙ length-replicate parents (ungiven letter);
  appended = record { many = ap length coords; at = λ i h. absurd (omega (arith, h)) };
  given = λ b. record {
    ends = sym (ap total counts ∙ ap (λ k. total (replicate parents k)) (zeros b) ∙ total_zeros parents);
    next = let k = ap (λ l. l.next) is in omega (arith, k);
    is = tells b;
    upto = λ i h. absurd (omega (arith, h));
    earlier = λ i h l. absurd (omega (arith, h));
    pending = λ i h at. absurd (omega (arith, h));
    rise = subst (λ cs. Rises (properties letter).unique 0 (drop 0 cs)) (sym coords) tt;
    least = inl coords;
  };
  ones = λ b. counts ∙ ap (replicate parents) (ap (λ t. if t then 1 else 0) b);
}
  where
    coords : log.coords ≡ []
    coords = ap (λ l. l.coords) is

    many : parents - 0 ≡ parents
    many = omega arith

    counts : log.counts ≡ replicate parents (ungiven letter)
    counts = ap (λ l. l.counts) is ∙ ap (λ k. replicate k (ungiven letter)) many

    zeros : (properties letter).branchless ≡ false → ungiven letter ≡ 0
    zeros b = ap (λ t. if t then 1 else 0) b

-- the last row's parent is a parent
pub record Stands (done last : ℕ) (rows : Rows) : Type 0 where
  pub behind : done < rows.count → last ≤ rows.parent done
  pub at : (i : ℕ) → done ≡ suc i → last ≡ rows.parent i

pub stands_none : (rows : Rows) → Stands 0 0 rows
stands_none rows = record { behind = λ h. omega arith; at = λ i h. absurd (omega (arith, h)) }

pub stands_more : (unique : Bool) (size parents done : ℕ) (rows : Rows) → InOrder unique size parents rows
    → Stands (suc done) (rows.parent done) rows
stands_more unique size parents done rows o = record {
  behind = λ more. parents_rise unique size parents rows done o more;
  at = λ i is. ap rows.parent (let k : done ≡ i = omega (arith, is) in k);
}

same_edges : (letter : Letter) (parent begin end : ℕ) (log : Log) → (properties letter).branchless ≡ true
    → with_edges letter parent begin end log ≡ log
same_edges letter parent begin end log b =
    ap (λ t. if t then log else record log { counts = slice_set log.counts parent (end - begin); next = parent + 1 }) b

turned_here : (at : Cursor) (next : ℕ) → at.last ≡ next → (at.last == next) ≡ true
turned_here at next h = grind (arith, nat_tests, h)

turned_away : (at : Cursor) (next : ℕ) → at.last ≢ next → (at.last == next) ≡ false
turned_away at next h = grind (arith, nat_tests, h)

-- the last parent may be given its positions
pub may_turn : (letter : Letter) (parents n : ℕ) (at : Cursor) (rows : Rows) (log : Log)
    → Progress letter parents n at.last at.begin rows log → at.last < parents → at.count ≡ length log.coords
    → MayAppendEdges letter at.last at.begin at.count log
may_turn letter parents n at rows log p h count = record {
  unfinished = p.stage;
  gives = λ b. record {
    reserved = let r = p.reserved in omega (arith, r, h);
    above = (p.given b).next;
    begins = (p.given b).ends;
    ends = count;
  };
}

-- the next row has the parent of the last one, or another, to which all is turned
pub turns : (letter : Letter) (size parents n : ℕ) (at : Cursor) (rows : Rows) (log : Log) → MayAppendRows letter size parents rows
    → n < rows.count → at.last ≤ rows.parent n → at.count ≡ length log.coords
    → Progress letter parents n at.last at.begin rows log
    → ((properties letter).branchless ≡ false → IsLog (turned_log letter at (rows.parent n) log))
    → Progress letter parents n (rows.parent n) (turned at (rows.parent n)).begin rows (turned_log letter at (rows.parent n) log)
turns letter size parents n at rows log o h behind count p tells = by_test (at.last == rows.parent n) refl
  where
    away : at.last ≢ rows.parent n → (with_edges letter at.last at.begin at.count log ≡ turned_log letter at (rows.parent n) log)
        → Progress letter parents n (rows.parent n) at.count rows (with_edges letter at.last at.begin at.count log)
    away other is = by_kind letter
        (λ b.
        let within = o.order.within n h in
        let more : at.last < rows.parent n = omega (arith, behind, other) in
        let begins = o.order.begins (omega (arith, h)) in
        subst (λ k. Progress letter parents n (rows.parent n) k rows (with_edges letter at.last at.begin k log)) (sym count)
        (progress letter parents n (rows.parent n) (length log.coords) rows (with_edges letter at.last at.begin (length log.coords) log) b
        (given_edges letter (properties letter).unique parents n at.last at.begin (rows.parent n) rows log b begins
        (omega (arith, more, within)) more (branching letter parents n at.last at.begin rows log b p)
        (subst (λ k. IsLog (with_edges letter at.last at.begin k log)) count (subst IsLog (sym is) (tells b))))))
        (λ b. subst (Progress letter parents n (rows.parent n) at.count rows) (sym (same_edges letter at.last at.begin at.count log b))
        (record {
          stage = p.stage;
          reserved = p.reserved;
          appended = p.appended;
          given = λ no_ones. absurd (apart (sym b ∙ no_ones));
          ones = p.ones;
        }))

    by_test : (b : Bool) → (at.last == rows.parent n) ≡ b
        → Progress letter parents n (rows.parent n) (turned at (rows.parent n)).begin rows (turned_log letter at (rows.parent n) log)
    by_test true is =
        let same : at.last ≡ rows.parent n = grind (arith, nat_tests, is) in
        subst (λ t. Progress letter parents n (rows.parent n)
        (if t then at else record { last = rows.parent n; begin = at.count; count = at.count }).begin rows
        (if t then log else with_edges letter at.last at.begin at.count log)) (sym is)
        (subst (λ k. Progress letter parents n k at.begin rows log) same p)
    by_test false is =
        let other : at.last ≢ rows.parent n = grind (arith, nat_tests, is) in
        let is_log : with_edges letter at.last at.begin at.count log ≡ turned_log letter at (rows.parent n) log =
        ap (λ t. if t then log else with_edges letter at.last at.begin at.count log) (sym is) in
        subst (λ t. Progress letter parents n (rows.parent n)
        (if t then at else record { last = rows.parent n; begin = at.count; count = at.count }).begin rows
        (if t then log else with_edges letter at.last at.begin at.count log)) (sym is)
        (away other is_log)

pub turned_count : (at : Cursor) (next : ℕ) → (turned at next).count ≡ at.count
turned_count at next = by_test (at.last == next)
  where
    by_test : (b : Bool) → (if b then at else record { last = next; begin = at.count; count = at.count }).count ≡ at.count
    by_test true = refl
    by_test false = refl

pub turned_begin : (at : Cursor) (next : ℕ) → (turned at next).begin ≡ (if at.last == next then at.begin else at.count)
turned_begin at next = by_test (at.last == next)
  where
    by_test : (b : Bool) → (if b then at else record { last = next; begin = at.count; count = at.count }).begin
        ≡ (if b then at.begin else at.count)
    by_test true = refl
    by_test false = refl

pub turned_last : (at : Cursor) (next : ℕ) → (turned at next).last ≡ next
turned_last at next = by_test (at.last == next) refl
  where
    by_test : (b : Bool) → (at.last == next) ≡ b
        → (if b then at else record { last = next; begin = at.count; count = at.count }).last ≡ next
    by_test true is = grind (arith, nat_tests, is)
    by_test false is = refl

pub turned_coords : (letter : Letter) (at : Cursor) (next : ℕ) (log : Log) → (turned_log letter at next log).coords ≡ log.coords
turned_coords letter at next log = by_test (at.last == next) (properties letter).branchless
  where
    by_test : (b k : Bool)
        → (if b then log else (if k then log else record log
        { counts = slice_set log.counts at.last (at.count - at.begin); next = at.last + 1 })).coords ≡ log.coords
    by_test true k = refl
    by_test false true = refl
    by_test false false = refl

-- the coordinate of a row that begins a position may come
pub may_add : (letter : Letter) (size parents n begin : ℕ) (rows : Rows) (log : Log) → MayAppendRows letter size parents rows
    → n < rows.count → rows.first n ≡ true
    → Progress letter parents n (rows.parent n) begin rows log → MayAppend letter size (rows.coord n) log
may_add letter size parents n begin rows log o h is p = record {
  unfinished = p.stage;
  below = o.order.below n h;
  rises = λ b. may_come (properties letter).unique size parents n (rows.parent n) begin rows log o.order h refl is
      (branching letter parents n (rows.parent n) begin rows log b p);
}

-- a row is appended
pub adds : (letter : Letter) (size parents n begin : ℕ) (rows : Rows) (log : Log) → MayAppendRows letter size parents rows → n < rows.count
    → Progress letter parents n (rows.parent n) begin rows log
    → ((properties letter).branchless ≡ false → IsLog (added_log (rows.first n) (rows.coord n) log))
    → Progress letter parents (suc n) (rows.parent n) begin rows (added_log (rows.first n) (rows.coord n) log)
adds letter size parents n begin rows log o h p tells = by_first (rows.first n) refl
  where
    first : rows.first n ≡ true → (with_coord (rows.coord n) log ≡ added_log (rows.first n) (rows.coord n) log)
        → Progress letter parents (suc n) (rows.parent n) begin rows (with_coord (rows.coord n) log)
    first is log_is = by_kind letter
        (λ b. progress letter parents (suc n) (rows.parent n) begin rows (with_coord (rows.coord n) log) b
        (row_first (properties letter).unique size parents n (rows.parent n) begin rows log o.order h refl is
        (branching letter parents n (rows.parent n) begin rows log b p) (subst IsLog (sym log_is) (tells b))))
        (λ b. record {
          stage = p.stage;
          reserved = p.reserved;
          appended = appended_more n rows log.coords (o.order.begins (omega (arith, h))) is p.appended;
          given = λ k. absurd (apart (sym b ∙ k));
          ones = p.ones;
        })

    again : rows.first n ≡ false → (m : ℕ) → n ≡ m → Progress letter parents (suc n) (rows.parent n) begin rows log
    again is zero at = absurd (apart (sym (o.order.begins (omega (arith, h))) ∙ sym (ap rows.first at) ∙ is))
    again is (suc m) at = by_kind letter
        (λ b. progress letter parents (suc n) (rows.parent n) begin rows log b
        (row_again (properties letter).unique size parents n (rows.parent n) begin rows log o.order h refl is
        (branching letter parents n (rows.parent n) begin rows log b p)))
        (λ b. record {
          stage = p.stage;
          reserved = p.reserved;
          appended = appended_same n m rows log.coords at is
              (ap rows.coord at ∙ (o.order.again m (omega (arith, h, at)) (sym (ap rows.first at) ∙ is)).1) p.appended;
          given = λ k. absurd (apart (sym b ∙ k));
          ones = p.ones;
        })

    by_first : (b : Bool) → rows.first n ≡ b → Progress letter parents (suc n) (rows.parent n) begin rows
        (added_log (rows.first n) (rows.coord n) log)
    by_first true is =
        let log_is : with_coord (rows.coord n) log ≡ added_log (rows.first n) (rows.coord n) log =
        ap (λ t. if t then with_coord (rows.coord n) log else log) (sym is) in
        subst (Progress letter parents (suc n) (rows.parent n) begin rows) log_is (first is log_is)
    by_first false is =
        let log_is : log ≡ added_log (rows.first n) (rows.coord n) log =
        ap (λ t. if t then with_coord (rows.coord n) log else log) (sym is) in
        subst (Progress letter parents (suc n) (rows.parent n) begin rows) log_is (again is n refl)

-- all rows are appended, and the last parent is given its positions
pub fills : (letter : Letter) (size parents : ℕ) (at : Cursor) (some : Bool) (rows : Rows) (log : Log)
    → MayAppendRows letter size parents rows → ((i : ℕ) → rows.count ≡ suc i → (some ≡ true) × (at.last ≡ rows.parent i))
    → (some ≡ true → 0 < rows.count)
    → at.count ≡ length log.coords → Progress letter parents rows.count at.last at.begin rows log
    → (some ≡ true → (properties letter).branchless ≡ false → IsLog (with_edges letter at.last at.begin at.count log))
    → Filled parents rows (closed_log letter at some log)
fills letter size parents at some rows log o last some_is count p tells = by_case some refl
  where
    all : some ≡ true → (k : ℕ) → rows.count ≡ k → Filled parents rows (with_edges letter at.last at.begin at.count log)
    all is zero none = let k = some_is is in absurd (omega (arith, k, none))
    all is (suc i) more =
        let at_last = (last i more).1 in
        let within = o.order.within i (omega (arith, more)) in
        by_kind letter
        (λ b.
        let then_is = subst (λ k. IsLog (with_edges letter at.last at.begin k log)) count (tells is b) in
        let coords = turned_coords letter (record { last = at.last; begin = at.begin; count = length log.coords }) (at.last + 1) log in
        let branches = branching letter parents rows.count at.last at.begin rows log b p in
        let next = given_edges letter (properties letter).unique parents rows.count at.last at.begin (at.last + 1) rows log b
        (o.order.begins (omega (arith, more))) (omega (arith, at_last, within)) (omega arith) branches then_is in
        subst (λ k. Filled parents rows (with_edges letter at.last at.begin k log)) (sym count)
        (all_filled (properties letter).unique parents (at.last + 1) (length log.coords) rows
        (with_edges letter at.last at.begin (length log.coords) log)
        (λ j h. let u = (p.given b).upto j h in omega (arith, u))
        (ap length (sym (same_coords b))) next))
        (λ b. subst (Filled parents rows) (sym (same_edges letter at.last at.begin at.count log b))
        (branchless_filled parents rows log (o.each b) o.order p.stage (p.ones b) p.appended))
      where
        same_coords : (properties letter).branchless ≡ false
            → (with_edges letter at.last at.begin (length log.coords) log).coords ≡ log.coords
        same_coords b =
            ap (λ t. (if t then log else record log {
              counts = slice_set log.counts at.last (length log.coords - at.begin);
              next = at.last + 1;
            }).coords) b

    none : some ≡ false → (k : ℕ) → rows.count ≡ k → Filled parents rows log
    none is (suc i) more = absurd (apart (sym (last i more).0 ∙ is))
    none is zero no_rows = by_kind letter
        (λ b. none_filled (properties letter).unique parents at.last at.begin rows log no_rows
        (subst (λ k. Branching (properties letter).unique parents k at.last at.begin rows log) no_rows
        (branching letter parents rows.count at.last at.begin rows log b p)))
        (λ b. branchless_filled parents rows log (o.each b) o.order p.stage (p.ones b) p.appended)

    by_case : (b : Bool) → some ≡ b → Filled parents rows (closed_log letter at some log)
    by_case true is = subst (λ t. Filled parents rows (if t then with_edges letter at.last at.begin at.count log else log)) (sym is)
        (all is rows.count refl)
    by_case false is = subst (λ t. Filled parents rows (if t then with_edges letter at.last at.begin at.count log else log)) (sym is)
        (none is rows.count refl)

-- the level may be finished
pub may_finish : (parents : ℕ) (rows : Rows) (log : Log) → Filled parents rows log → MayFinish parents log
may_finish parents rows log f = record { unfinished = f.stage; reserved = f.reserved; given = f.given }
