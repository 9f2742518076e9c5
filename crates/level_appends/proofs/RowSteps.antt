-- What the code of one level does: before the first row, for more parents, for a row that begins a position, and behind the last row.
use Rattle.std.specs.Prelude.{◌≡◌, ◌≢◌, ℕ, zero, suc, ◌+◌, ◌-◌, ◌≤◌, ◌<◌, ◌==◌, not, Bool, true, false, if◌then◌else◌, List, [], ◌∷◌, ◌++◌}
use Rattle.std.specs.Prelude.{length, slice_set, Some, refl}
use Rattle.std.proofs.Common.{◌∙◌, sym, ap, subst, arith}
use Rattle.std.proofs.lemmas.Bool.Decides.{nat_tests}
use Rattle.std.proofs.lemmas.List.{length_push}
use Rattle.limits.specs.Limits.{greatest_position_count}
use Rattle.limits.proofs.Limits.{positions_are_small}
use Rattle.kernel_code.specs.Does.{Does, Never}
use Rattle.kernel_code.proofs.Does.{does_weaker, does_nothing, does_append, does_set, does_if_yes, does_if_no}
use Rattle.kernel_code.specs.Keeps.{Leaves, NoVariable, EveryArray, no_turns}
use Rattle.kernel_code.proofs.Keeps.{this_var, other_var, leaves_set, leaves_none}
use Rattle.kernel_code.proofs.Words.{sum_is, binary_is}
use Rattle.kernel_code.specs.Meaning.{Setting, State, value, word_of, set_var}
use Rattle.kernel_code.specs.declared.syntax.Op.TheVariants.{Add, NotEqual}
use Rattle.kernel_code.specs.declared.syntax.KExpr.{KExpr, Num, Var, Bin}
use Rattle.kernel_code.specs.declared.syntax.KStmt.{KStmt, Set}
use Rattle.level_core.specs.declared.letter.Letter.{Letter}
use Rattle.level_core.specs.Codes.{ReserveCode, AppendCode, EdgesCode}
use Rattle.level_core.specs.Fragments.{IsOutside, RefusedWithin, PassesLimit}
use Rattle.level_core.specs.Kinds.{properties, capabilities}
use Rattle.level_core.specs.Logs.{Log, IsLog, MayAppendEdges, with_parents, with_coord, with_edges, nothing_reserved}
use Rattle.level_core.specs.Meaning.{Meaning}
use Rattle.level_core.specs.Laws.{Laws}
use Rattle.level_rows.specs.Rows.{Rows, begun, MayAppendRows}
use Rattle.level_rows.specs.Appending.{turned_log, added_log, closed_log}
use Rattle.level_rows.proofs.EmitLaws.{HasLog}
use Rattle.level_rows.proofs.Progress.{Progress, Filled}
use Rattle.level_rows.proofs.RowLaws.{begun_yes, begun_few, begun_some}
use Rattle.level_rows.proofs.AppendSteps.{none_done, may_turn, turns, turned_begin, may_add, adds, fills}
use Rattle.level_appends.specs.Appended.{IsOfCursor, LevelAt, LevelFilled}
use Rattle.level_appends.specs.Codes.{begin_code, turn_code, add_code, end_code, IsBeside, IsAtStart, BeginsCursor}
use Rattle.level_appends.specs.Codes.{ReservesParents, AppendsRow}
use Rattle.level_appends.specs.Codes.{EndsLevel}
use Rattle.level_appends.proofs.Logs.{ends_upto, progress_reserved}
use Rattle.level_appends.proofs.Fragments.{log_kept, log_reserved, log_appended, log_given, edges_coords}

apart : {A : Type 0} → true ≡ false → A
apart e = absurd (never e)
  where
    never : true ≡ false → ⊥
    never e = cc

pub begins_cursor : (base : ℕ) → BeginsCursor base (begin_code base)
begins_cursor base c top s =
    let s1 = set_var s base 0 in
    let s2 = set_var s1 (base + 1) 0 in
    let s3 = set_var s2 (base + 2) 0 in
    does_set c base (Num 0) _ s 0 _ _ refl
    (does_set c (base + 1) (Num 0) _ s1 0 _ _ refl
    (does_set c (base + 2) (Num 0) _ s2 0 _ _ refl
    (does_nothing c s3 _ _ (
      leaves_set (IsOfCursor base) EveryArray top no_turns s s2 (base + 2) 0
          (λ y l e. record { from = omega (arith, e); before = omega (arith, e) })
          (leaves_set (IsOfCursor base) EveryArray top no_turns s s1 (base + 1) 0
          (λ y l e. record { from = omega (arith, e); before = omega (arith, e) })
          (leaves_set (IsOfCursor base) EveryArray top no_turns s s base 0
          (λ y l e. record { from = omega (arith, e); before = omega (arith, e) })
          (leaves_none (IsOfCursor base) EveryArray top no_turns s))),
      record {
        parent = other_var s2 (base + 2) base 0 (λ e. omega (arith, e)) ∙ other_var s1 (base + 1) base 0 (λ e. omega (arith, e))
            ∙ this_var s base 0;
        begin = other_var s2 (base + 2) (base + 1) 0 (λ e. omega (arith, e)) ∙ this_var s1 (base + 1) 0;
        count = this_var s2 (base + 2) 0;
      },
    ))))

-- the level that arrays hold as a kernel begins, with its cursor at the start
pub level_begun : {L : Type 0} (means : Meaning L) → Laws means → (letter : Letter) (size level base parents : ℕ) (rows : Rows) (s : State)
    → HasLog means letter size level (with_parents letter parents nothing_reserved) s.arrays → IsAtStart base s
    → LevelAt means letter size level base parents 0 rows s
level_begun means laws letter size level base parents rows s h at = record {
  log = with_parents letter parents nothing_reserved;
  held = h;
  last = 0;
  begin = 0;
  progress = none_done letter parents rows (with_parents letter parents nothing_reserved) refl
      (λ b. log_kept means laws letter size level (with_parents letter parents nothing_reserved) s.arrays b h);
  ends = record { none = λ _. refl; some = λ i next. absurd (omega (arith, next)) };
  parent_is = λ _. at.parent;
  begin_is = λ _. at.begin;
  count_is = at.count;
}

module _ {L : Type 0} (means : Meaning L) (laws : Laws means) (letter : Letter) (level base free : ℕ) (beyond : base + 3 ≤ free) where
  pub reserves_parents : (parents_is : KExpr) (code : List KStmt)
      → ReserveCode means letter 0 level (Num 0 ∷ parents_is ∷ []) free code
      → ReservesParents means letter level base parents_is free code
  reserves_parents parents_is code reserves able c size parents more n rows upto few s at is =
      does_weaker c code s _ _ _ _
      (log_reserved means laws letter size level c parents_is free code reserves able at.log more few at.progress.stage s at.held is)
      (λ t k. (
        k.0,
        record {
          log = with_parents letter more at.log;
          held = k.1;
          last = at.last;
          begin = at.begin;
          progress = progress_reserved letter parents more n at.last at.begin rows at.log upto
              (λ b. log_kept means laws letter size level (with_parents letter more at.log) t.arrays b k.1) at.progress;
          ends = at.ends;
          parent_is = λ b. k.0.below base (omega (arith, beyond)) (λ m. m) ∙ at.parent_is b;
          begin_is = λ b. k.0.below (base + 1) (omega (arith, beyond)) (λ m. m) ∙ at.begin_is b;
          count_is = k.0.below (base + 2) (omega (arith, beyond)) (λ m. m) ∙ at.count_is;
        },
      ))
      (λ made a k z. z)

  -- the row's parent is the last one's now
  record TurnedAt (size parents n coord : ℕ) (rows : Rows) (s t : State) : Type 0 where
    log : Log
    held : HasLog means letter size level log t.arrays
    begin : ℕ
    progress : Progress letter parents n (rows.parent n) begin rows log
    parent_is : (properties letter).branchless ≡ false → t.vars base ≡ Some (rows.parent n)
    begin_is : (properties letter).branchless ≡ false → t.vars (base + 1) ≡ Some begin
    count_is : t.vars (base + 2) ≡ Some (length log.coords)
    coord_is : t.vars coord ≡ Some (rows.coord n)
    leaves : Leaves (IsOfCursor base) (IsOutside 0 level) free no_turns s t

  module _ (c : Setting) (able : (capabilities letter).append ≡ true) (parent coord : ℕ) (beside_parent : IsBeside base free parent)
      (beside : IsBeside base free coord) (size parents n : ℕ) (rows : Rows) (may : MayAppendRows letter size parents rows)
      (inside : n < rows.count) (first : rows.first n ≡ true) where
    not_cursor : (x y : ℕ) → IsBeside base free y → base ≤ x → x < base + 3 → x ≢ y
    not_cursor x y b from before e = b.apart (record { from = omega (arith, from, e); before = omega (arith, before, e) })

    -- the coordinate is appended
    adds_row : (append : List KStmt) → AppendCode means letter 0 level (Var coord ∷ []) free append
        → (s t : State) → TurnedAt size parents n coord rows s t
        → Does c (add_code base append) t
        (λ u. Leaves (IsOfCursor base) (IsOutside 0 level) free no_turns s u × LevelAt means letter size level base parents (suc n) rows u
        × (begun rows.first (suc n) ≤ greatest_position_count))
        (RefusedWithin no_turns s (PassesLimit 0 level (begun rows.first (suc n))))
    adds_row append appends s t at =
        does_append c append (Set (base + 2) (Bin Add (Var (base + 2)) (Num 1)) ∷ []) t _ _ _
        (does_weaker c append t _ _ _ _
        (log_appended means laws letter size level c coord free append appends able at.log (rows.coord n)
        (may_add letter size parents n at.begin rows at.log may inside first at.progress) t at.held at.coord_is) (λ u k. k)
        (λ made a k z. (
          (λ j. let x = z.0 j in let y = at.leaves.turns j in omega (arith, x, y)),
          subst (λ m. PassesLimit 0 level m a k) one z.1,
        )))
        (λ u k.
        let v = set_var u (base + 2) (length at.log.coords + 1) in
        let few = k.2 in
        let small = positions_are_small in
        does_set c (base + 2) (Bin Add (Var (base + 2)) (Num 1)) [] u (length at.log.coords + 1) _ _
        (sum_is (Var (base + 2)) (Num 1) (length at.log.coords) 1 u
        (k.0.below (base + 2) (omega (arith, beyond)) (λ m. m) ∙ at.count_is) refl (omega (arith, few, small)))
        (does_nothing c v _ _ (
          leaves_set (IsOfCursor base) (IsOutside 0 level) free no_turns s u (base + 2) (length at.log.coords + 1)
              (λ y l e. record { from = omega (arith, e); before = omega (arith, e) })
              (record {
                below = λ y l m. k.0.below y l (λ never. never) ∙ at.leaves.below y l m;
                arrays = λ a o. k.0.arrays a o ∙ at.leaves.arrays a o;
                turns = λ j. let x = k.0.turns j in let y = at.leaves.turns j in omega (arith, x, y);
              }),
          record {
            log = with_coord (rows.coord n) at.log;
            held = k.1;
            last = rows.parent n;
            begin = at.begin;
            progress = step (λ b. log_kept means laws letter size level (with_coord (rows.coord n) at.log) u.arrays b k.1);
            ends = record {
              none = λ none. absurd (omega (arith, none));
              some = λ i next. ap rows.parent (let e : n ≡ i = omega (arith, next) in e);
            };
            parent_is = λ b. other_var u (base + 2) base (length at.log.coords + 1) (λ e. omega (arith, e))
                ∙ k.0.below base (omega (arith, beyond)) (λ m. m) ∙ at.parent_is b;
            begin_is = λ b. other_var u (base + 2) (base + 1) (length at.log.coords + 1) (λ e. omega (arith, e))
                ∙ k.0.below (base + 1) (omega (arith, beyond)) (λ m. m) ∙ at.begin_is b;
            count_is = this_var u (base + 2) (length at.log.coords + 1) ∙ ap Some (sym (length_push at.log.coords (rows.coord n)));
          },
          omega (arith, few, one),
        )))
      where
        one : length at.log.coords + 1 ≡ begun rows.first (suc n)
        one = let m = at.progress.appended.many in let y = begun_yes rows n first in omega (arith, m, y)

        step : ((properties letter).branchless ≡ false → IsLog (with_coord (rows.coord n) at.log))
            → Progress letter parents (suc n) (rows.parent n) at.begin rows (with_coord (rows.coord n) at.log)
        step tells =
            subst (λ b. Progress letter parents (suc n) (rows.parent n) at.begin rows (added_log b (rows.coord n) at.log)) first
            (adds letter size parents n at.begin rows at.log may inside at.progress
            (λ b. subst (λ t. IsLog (added_log t (rows.coord n) at.log)) (sym first) (tells b)))

    -- at a branchless level no parent is given anything
    without_turn : (properties letter).branchless ≡ true → (s : State) → LevelAt means letter size level base parents n rows s
        → s.vars coord ≡ Some (rows.coord n) → TurnedAt size parents n coord rows s s
    without_turn b s at is = record {
      log = at.log;
      held = at.held;
      begin = at.begin;
      progress = record {
        stage = at.progress.stage;
        reserved = at.progress.reserved;
        appended = at.progress.appended;
        given = λ no. apart (sym b ∙ no);
        ones = at.progress.ones;
      };
      parent_is = λ no. apart (sym b ∙ no);
      begin_is = λ no. apart (sym b ∙ no);
      count_is = at.count_is;
      coord_is = is;
      leaves = leaves_none (IsOfCursor base) (IsOutside 0 level) free no_turns s;
    }

    module _ (branches : (properties letter).branchless ≡ false) (edges : List KStmt)
        (gives : EdgesCode means letter 0 level (Var base ∷ Var (base + 1) ∷ Var (base + 2) ∷ []) free edges)
        (s : State) (at : LevelAt means letter size level base parents n rows s) (parent_now : s.vars parent ≡ Some (rows.parent n))
        (coord_now : s.vars coord ≡ Some (rows.coord n)) where
      behind : at.last ≤ rows.parent n
      behind = ends_upto letter size parents n at.last rows may inside at.ends

      -- the parent is another
      does_turn : (at.last == rows.parent n) ≡ false
          → Does c (edges ++ Set (base + 1) (Var (base + 2)) ∷ Set base (Var parent) ∷ []) s (TurnedAt size parents n coord rows s)
          (RefusedWithin no_turns s (PassesLimit 0 level (begun rows.first (suc n))))
      does_turn other =
          does_append c edges (Set (base + 1) (Var (base + 2)) ∷ Set base (Var parent) ∷ []) s _ _ _
          (does_weaker c edges s _ _ _ _
          (log_given means laws letter size level c (Var base) (Var (base + 1)) (Var (base + 2)) free edges gives able at.log
          at.last at.begin
          (length at.log.coords) may_give s at.held (at.parent_is branches) (at.begin_is branches) at.count_is) (λ t k. k)
          (λ t a k z. absurd z))
          (λ t k.
          let t2 = set_var t (base + 1) (length at.log.coords) in
          let t3 = set_var t2 base (rows.parent n) in
          let count = k.0.below (base + 2) (omega (arith, beyond)) (λ m. m) ∙ at.count_is in
          does_set c (base + 1) (Var (base + 2)) (Set base (Var parent) ∷ []) t (length at.log.coords) _ _ count
          (does_set c base (Var parent) [] t2 (rows.parent n) _ _
          (other_var t (base + 1) parent (length at.log.coords)
          (not_cursor (base + 1) parent beside_parent (omega arith) (omega arith))
          ∙ k.0.below parent beside_parent.below (λ m. m) ∙ parent_now)
          (does_nothing c t3 _ _ (record {
            log = with_edges letter at.last at.begin (length at.log.coords) at.log;
            held = k.1;
            begin = length at.log.coords;
            progress = step (λ b. log_kept means laws letter size level
                (with_edges letter at.last at.begin (length at.log.coords) at.log) t.arrays b k.1);
            parent_is = λ _. this_var t2 base (rows.parent n);
            begin_is = λ _. other_var t2 base (base + 1) (rows.parent n) (λ e. omega (arith, e))
                ∙ this_var t (base + 1) (length at.log.coords);
            count_is = other_var t2 base (base + 2) (rows.parent n) (λ e. omega (arith, e))
                ∙ other_var t (base + 1) (base + 2) (length at.log.coords) (λ e. omega (arith, e)) ∙ count
                ∙ ap Some (ap length (sym (edges_coords letter at.last at.begin (length at.log.coords) at.log)));
            coord_is = other_var t2 base coord (rows.parent n) (not_cursor base coord beside (omega arith) (omega arith))
                ∙ other_var t (base + 1) coord (length at.log.coords) (not_cursor (base + 1) coord beside (omega arith) (omega arith))
                ∙ k.0.below coord beside.below (λ m. m) ∙ coord_now;
            leaves = leaves_set (IsOfCursor base) (IsOutside 0 level) free no_turns s t2 base (rows.parent n)
                (λ y l e. record { from = omega (arith, e); before = omega (arith, e) })
                (leaves_set (IsOfCursor base) (IsOutside 0 level) free no_turns s t (base + 1) (length at.log.coords)
                (λ y l e. record { from = omega (arith, e); before = omega (arith, e) })
                (record { below = λ y l m. k.0.below y l (λ never. never); arrays = k.0.arrays; turns = k.0.turns }));
          }))))
        where
          away : at.last ≢ rows.parent n
          away = grind (arith, nat_tests, other)

          may_give : MayAppendEdges letter at.last at.begin (length at.log.coords) at.log
          may_give = let w = may.order.within n inside in
              may_turn letter parents n (record { last = at.last; begin = at.begin; count = length at.log.coords }) rows at.log
              at.progress (omega (arith, behind, away, w)) refl

          step : ((properties letter).branchless ≡ false → IsLog (with_edges letter at.last at.begin (length at.log.coords) at.log))
              → Progress letter parents n (rows.parent n) (length at.log.coords) rows
              (with_edges letter at.last at.begin (length at.log.coords) at.log)
          step tells =
              subst (λ t. Progress letter parents n (rows.parent n) (if t then at.begin else length at.log.coords) rows
              (if t then at.log else with_edges letter at.last at.begin (length at.log.coords) at.log)) other
              (subst (λ k. Progress letter parents n (rows.parent n) k rows
              (turned_log letter (record { last = at.last; begin = at.begin; count = length at.log.coords }) (rows.parent n) at.log))
              (turned_begin (record { last = at.last; begin = at.begin; count = length at.log.coords }) (rows.parent n))
              (turns letter size parents n (record { last = at.last; begin = at.begin; count = length at.log.coords }) rows at.log
              may inside behind refl at.progress
              (λ b. subst (λ t. IsLog (if t then at.log else with_edges letter at.last at.begin (length at.log.coords) at.log)) (sym other)
              (tells b))))

      -- the test whether it is
      tests_parent : (rest : List KStmt) (Q : State → Type 0)
          → ((t : State) → TurnedAt size parents n coord rows s t
          → Does c rest t Q (RefusedWithin no_turns s (PassesLimit 0 level (begun rows.first (suc n)))))
          → Does c (turn_code base parent edges ++ rest) s Q (RefusedWithin no_turns s (PassesLimit 0 level (begun rows.first (suc n))))
      tests_parent rest Q next = by_test (at.last == rows.parent n) refl
        where
          tested : value (Bin NotEqual (Var base) (Var parent)) s ≡ Some (word_of (not (at.last == rows.parent n)))
          tested = binary_is NotEqual (Var base) (Var parent) at.last (rows.parent n) s (at.parent_is branches) parent_now

          by_test : (b : Bool) → (at.last == rows.parent n) ≡ b
              → Does c (turn_code base parent edges ++ rest) s Q (RefusedWithin no_turns s (PassesLimit 0 level (begun rows.first (suc n))))
          by_test true is =
              let same : at.last ≡ rows.parent n = grind (arith, nat_tests, is) in
              does_if_no c (Bin NotEqual (Var base) (Var parent)) (edges ++ Set (base + 1) (Var (base + 2)) ∷ Set base (Var parent) ∷ []) []
              rest s (TurnedAt size parents n coord rows s) Q _ (tested ∙ ap (λ b. Some (word_of (not b))) is)
              (does_nothing c s _ _ (record {
                log = at.log;
                held = at.held;
                begin = at.begin;
                progress = subst (λ k. Progress letter parents n k at.begin rows at.log) same at.progress;
                parent_is = λ b. at.parent_is b ∙ ap Some same;
                begin_is = at.begin_is;
                count_is = at.count_is;
                coord_is = coord_now;
                leaves = leaves_none (IsOfCursor base) (IsOutside 0 level) free no_turns s;
              })) next
          by_test false is =
              does_if_yes c (Bin NotEqual (Var base) (Var parent))
              (edges ++ Set (base + 1) (Var (base + 2)) ∷ Set base (Var parent) ∷ []) []
              rest s 0 (TurnedAt size parents n coord rows s) Q _ (tested ∙ ap (λ b. Some (word_of (not b))) is)
              (does_turn is) next

  -- a row that begins a position
  pub appends_row_once : (parent coord : ℕ) (append code : List KStmt) → IsBeside base free parent → IsBeside base free coord
      → (properties letter).branchless ≡ true → AppendCode means letter 0 level (Var coord ∷ []) free append → code ≡ add_code base append
      → AppendsRow means letter level base parent coord free code
  appends_row_once parent coord append code bp bc b appends is able c size parents n rows may h first s at p x =
      subst (λ k. Does c k s
      (λ t. Leaves (IsOfCursor base) (IsOutside 0 level) free no_turns s t × LevelAt means letter size level base parents (suc n) rows t
      × (begun rows.first (suc n) ≤ greatest_position_count))
      (RefusedWithin no_turns s (PassesLimit 0 level (begun rows.first (suc n))))) (sym is)
      (adds_row c able parent coord bp bc size parents n rows may h first append appends s s
      (without_turn c able parent coord bp bc size parents n rows may h first b s at x))

  pub appends_row_below : (parent coord : ℕ) (append edges code : List KStmt) → IsBeside base free parent → IsBeside base free coord
      → (properties letter).branchless ≡ false → AppendCode means letter 0 level (Var coord ∷ []) free append
      → EdgesCode means letter 0 level (Var base ∷ Var (base + 1) ∷ Var (base + 2) ∷ []) free edges
      → code ≡ turn_code base parent edges ++ add_code base append
      → AppendsRow means letter level base parent coord free code
  appends_row_below parent coord append edges code bp bc b appends gives is able c size parents n rows may h first s at p x =
      subst (λ k. Does c k s
      (λ t. Leaves (IsOfCursor base) (IsOutside 0 level) free no_turns s t × LevelAt means letter size level base parents (suc n) rows t
      × (begun rows.first (suc n) ≤ greatest_position_count))
      (RefusedWithin no_turns s (PassesLimit 0 level (begun rows.first (suc n))))) (sym is)
      (tests_parent c able parent coord bp bc size parents n rows may h first b edges gives s at p x (add_code base append) _
      (λ t turned. adds_row c able parent coord bp bc size parents n rows may h first append appends s t turned))

  -- the last row is appended
  module _ (c : Setting) (able : (capabilities letter).append ≡ true) (size parents : ℕ) (rows : Rows)
      (may : MayAppendRows letter size parents rows) (s : State) (at : LevelAt means letter size level base parents rows.count rows s) where
    last_is : (i : ℕ) → rows.count ≡ suc i → at.last ≡ rows.parent i
    last_is i next = at.ends.some i next

    all_filled : (some : Bool) (log : Log) → log ≡ closed_log letter
        (record { last = at.last; begin = at.begin; count = length at.log.coords }) some at.log
        → ((i : ℕ) → rows.count ≡ suc i → some ≡ true) → (some ≡ true → 0 < rows.count) → (t : State)
        → HasLog means letter size level log t.arrays
        → LevelFilled means letter size level parents rows t
    all_filled some log is marked some_is t held = record {
      log = log;
      held = held;
      filled = subst (Filled parents rows) (sym is)
          (fills letter size parents (record { last = at.last; begin = at.begin; count = length at.log.coords }) some rows at.log may
          (λ i next. (marked i next, last_is i next)) some_is refl at.progress
          (λ yes b. log_kept means laws letter size level (with_edges letter at.last at.begin (length at.log.coords) at.log) t.arrays b
          (subst (λ l. HasLog means letter size level l t.arrays)
          (is ∙ ap (λ k. closed_log letter (record { last = at.last; begin = at.begin; count = length at.log.coords }) k at.log)
          yes) held)));
    }

    many : length at.log.coords ≡ begun rows.first rows.count
    many = at.progress.appended.many

    none_begun : length at.log.coords ≡ 0 → rows.count ≡ 0
    none_begun none = by_count rows.count refl
      where
        by_count : (n : ℕ) → rows.count ≡ n → rows.count ≡ 0
        by_count zero is = is
        by_count (suc n) is =
            let some = begun_some rows rows.count (may.order.begins (omega (arith, is))) (omega (arith, is)) in
            absurd (omega (arith, some, many, none))

    some_rows : (n : ℕ) → length at.log.coords ≡ suc n → 0 < rows.count
    some_rows n some = let few = begun_few rows rows.count in omega (arith, few, many, some)

    -- without rows nothing is pending
    filled_none : length at.log.coords ≡ 0 → (t : State) → HasLog means letter size level at.log t.arrays
        → LevelFilled means letter size level parents rows t
    filled_none none t held =
        let no_rows = none_begun none in
        all_filled false at.log refl (λ i next. absurd (omega (arith, no_rows, next))) (λ e. apart (sym e)) t held

    filled_some : (n : ℕ) → length at.log.coords ≡ suc n → (log : Log)
        → log ≡ with_edges letter at.last at.begin (length at.log.coords) at.log
        → (t : State) → HasLog means letter size level log t.arrays → LevelFilled means letter size level parents rows t
    filled_some n some log is t held = all_filled true log is (λ i next. refl) (λ _. some_rows n some) t held

    -- at a branchless level nothing is ever pending
    once_filled : (properties letter).branchless ≡ true → LevelFilled means letter size level parents rows s
    once_filled b = by_count (length at.log.coords) refl
      where
        same_log : at.log ≡ with_edges letter at.last at.begin (length at.log.coords) at.log
        same_log = sym (ap (λ t. if t then at.log
            else record at.log { counts = slice_set at.log.counts at.last (length at.log.coords - at.begin); next = at.last + 1 }) b)

        by_count : (n : ℕ) → length at.log.coords ≡ n → LevelFilled means letter size level parents rows s
        by_count zero none = filled_none none s at.held
        by_count (suc n) some = filled_some n some at.log same_log s at.held

    may_end : (n : ℕ) → length at.log.coords ≡ suc n → MayAppendEdges letter at.last at.begin (length at.log.coords) at.log
    may_end n some =
        let more = some_rows n some in
        let next : rows.count ≡ suc (rows.count - 1) = omega (arith, more) in
        let last = last_is (rows.count - 1) next in
        let within = may.order.within (rows.count - 1) (omega (arith, more)) in
        may_turn letter parents rows.count (record { last = at.last; begin = at.begin; count = length at.log.coords }) rows at.log
        at.progress (omega (arith, last, within)) refl

    closes : (edges : List KStmt) → (properties letter).branchless ≡ false
        → EdgesCode means letter 0 level (Var base ∷ Var (base + 1) ∷ Var (base + 2) ∷ []) free edges
        → Does c (end_code base edges) s
        (λ t. Leaves NoVariable (IsOutside 0 level) free no_turns s t × LevelFilled means letter size level parents rows t) Never
    closes edges b gives = by_count (length at.log.coords) refl
      where
        by_count : (n : ℕ) → length at.log.coords ≡ n → Does c (end_code base edges) s
            (λ t. Leaves NoVariable (IsOutside 0 level) free no_turns s t × LevelFilled means letter size level parents rows t) Never
        by_count zero none =
            does_if_no c (Var (base + 2)) edges [] [] s
            (λ t. Leaves NoVariable (IsOutside 0 level) free no_turns s t × LevelFilled means letter size level parents rows t) _ _
            (at.count_is ∙ ap Some none)
            (does_nothing c s _ _ (leaves_none NoVariable (IsOutside 0 level) free no_turns s, filled_none none s at.held))
            (λ t k. does_nothing c t _ _ k)
        by_count (suc n) some =
            does_if_yes c (Var (base + 2)) edges [] [] s n
            (λ t. Leaves NoVariable (IsOutside 0 level) free no_turns s t × LevelFilled means letter size level parents rows t) _ _
            (at.count_is ∙ ap Some some)
            (does_weaker c edges s _ _ _ _
            (log_given means laws letter size level c (Var base) (Var (base + 1)) (Var (base + 2)) free edges gives able at.log at.last
            at.begin (length at.log.coords) (may_end n some) s at.held (at.parent_is b) (at.begin_is b) at.count_is)
            (λ t k. (k.0, filled_some n some (with_edges letter at.last at.begin (length at.log.coords) at.log) refl t k.1))
            (λ made a k z. z))
            (λ t k. does_nothing c t _ _ k)

  pub ends_level_once : (code : List KStmt) → (properties letter).branchless ≡ true → code ≡ []
      → EndsLevel means letter level base free code
  ends_level_once code b is able c size parents rows may s at =
      subst (λ k. Does c k s
      (λ t. Leaves NoVariable (IsOutside 0 level) free no_turns s t × LevelFilled means letter size level parents rows t) Never) (sym is)
      (does_nothing c s _ _ (
        leaves_none NoVariable (IsOutside 0 level) free no_turns s,
        once_filled c able size parents rows may s at b,
      ))

  pub ends_level_below : (edges code : List KStmt) → (properties letter).branchless ≡ false
      → EdgesCode means letter 0 level (Var base ∷ Var (base + 1) ∷ Var (base + 2) ∷ []) free edges → code ≡ end_code base edges
      → EndsLevel means letter level base free code
  ends_level_below edges code b gives is able c size parents rows may s at =
      subst (λ k. Does c k s
      (λ t. Leaves NoVariable (IsOutside 0 level) free no_turns s t × LevelFilled means letter size level parents rows t) Never) (sym is)
      (closes c able size parents rows may s at edges b gives)
