-- What the code does that appends the rows of a workspace.
use Rattle.std.specs.Prelude.{◌≡◌, ◌≢◌, ◌⊎◌, ℕ, zero, suc, ◌+◌, ◌-◌, ◌≤◌, ◌<◌, ◌^◌, ◌==◌, not, Bool, true, false, if◌then◌else◌, List, []}
use Rattle.std.specs.Prelude.{◌∷◌, ◌++◌, length, slice_set, slice_get, Option, Some, refl}
use Rattle.std.proofs.Common.{◌∙◌, sym, ap, subst, arith, inl, inr}
use Rattle.std.proofs.lemmas.Bool.{cases_lt}
use Rattle.std.proofs.lemmas.Bool.Decides.{nat_tests}
use Rattle.std.proofs.lemmas.List.{length_push}
use Rattle.std.proofs.lemmas.Option.{slice_get-get_or}
use Rattle.limits.proofs.Limits.{positions_are_small}
use Rattle.kernel_code.proofs.ArrayNames.{same_arr_self}
use Rattle.kernel_code.specs.Meaning.{Setting, State, value, word_of, set_var, set_array, one_turn, length_of}
use Rattle.kernel_code.specs.Does.{Does, Never, Refusal, Goes}
use Rattle.kernel_code.proofs.Does.{does_weaker, does_nothing, does_append, does_set, does_put, does_if_yes, does_if_no, does_while}
use Rattle.kernel_code.specs.Keeps.{Leaves, NoVariable}
use Rattle.kernel_code.proofs.Keeps.{this_var, other_var, this_array, other_array, leaves_set, leaves_array}
use Rattle.kernel_code.specs.declared.syntax.Arr.{Arr}
use Rattle.kernel_code.specs.declared.syntax.Arr.TheVariants.{Sums, ListPositions}
use Rattle.kernel_code.specs.declared.syntax.LoopKind.TheVariants.{Drain}
use Rattle.kernel_code.specs.declared.syntax.Op.TheVariants.{Add, Sub, Less, NotEqual}
use Rattle.kernel_code.specs.declared.syntax.KExpr.{KExpr, Num, Var, At, Len, Bin}
use Rattle.kernel_code.specs.declared.syntax.KStmt.{KStmt, Set, If}
use Rattle.kernel_code.proofs.Words.{word_is, sum_is, difference_is, less_yes, less_no, binary_is}
use Rattle.level_core.specs.declared.letter.Letter.{Letter}
use Rattle.level_core.specs.Kinds.{properties}
use Rattle.level_core.specs.Logs.{Log, IsLog, MayAppend, MayAppendEdges, with_coord, with_edges}
use Rattle.level_core.specs.Fragments.{RefusedWithin, PassesLimitWithin, turns_of}
use Rattle.level_core.specs.Meaning.{Arrays}
use Rattle.level_rows.specs.Rows.{Rows, begun, place, MayAppendRows}
use Rattle.level_rows.specs.Appending.{turned_log, added_log}
use Rattle.level_rows.specs.Draining.{turn_code, first_code, place_code, row_code, drain_code, Stays, TellsFirst, TellsCoord}
use Rattle.level_rows.proofs.Progress.{Progress, Filled, Placing}
use Rattle.level_rows.proofs.RowLaws.{begun_yes, begun_upto, begun_some, begun_few}
use Rattle.level_rows.proofs.AppendSteps.{Stands, stands_none, stands_more, may_turn, turns, turned_begin, may_add, adds, fills}
use Rattle.level_rows.proofs.AppendLoop.{placed_more}
use Rattle.level_rows.proofs.DrainSteps.{Appends, Drained, Draining, TurnedTo, AddedTo, list_apart, set_temp, written, one_drained}
use Rattle.level_rows.proofs.DrainSteps.{refused_turns}

-- a growth refused while so many rows are drained
abbrev DrainRefusal : ℕ → Rows → State → Refusal
DrainRefusal level rows s0 = RefusedWithin (turns_of Drain rows.count) s0 (PassesLimitWithin 0 level (begun rows.first rows.count))

edges_coords : (letter : Letter) (parent begin end : ℕ) (log : Log) → (with_edges letter parent begin end log).coords ≡ log.coords
edges_coords letter parent begin end log = by_test (properties letter).branchless
  where
    by_test : (b : Bool) → (if b then log else record log { counts = slice_set log.counts parent (end - begin); next = parent + 1 }).coords
        ≡ log.coords
    by_test true = refl
    by_test false = refl

-- what is left when all rows are drained
pub record AllDrained (has : Log → Arrays → Type 0) (level g base parents : ℕ) (rows : Rows) (s0 s : State) : Type 0 where
  pub log : Log
  pub held : has log s.arrays
  pub filled : Filled parents rows log
  pub positions : List ℕ
  pub places : s.arrays (ListPositions g) ≡ Some positions
  pub placed : Placing rows.count rows (place rows.first) positions
  pub count : s.vars (base + 1) ≡ Some (begun rows.first rows.count)
  pub leaves : Leaves NoVariable (Stays level g) base (turns_of Drain rows.count) s0 s

module _ (c : Setting) (letter : Letter) (size level base w g parents : ℕ) (test coord : KExpr) (append edges : List KStmt)
    (has : Log → (Arr → Option (List ℕ)) → Type 0) (rows : Rows) (s0 : State)
    (code : Appends c letter size level (base + 6) coord (Var (base + 3)) (Var (base + 2)) (Var (base + 1)) append edges has)
    (may : MayAppendRows letter size parents rows)
    (tells : TellsFirst base level g test rows s0) (reads : TellsCoord base level g coord rows s0)
    (values : List ℕ) (values_are : s0.arrays (Sums w) ≡ Some values) (many : length values ≡ rows.count) (few : rows.count < 2 ^ 63) where
  -- the last parent is given its positions where the row has another
  does_turn : (done last begin : ℕ) (log : Log) (ps : List ℕ) (s : State) → done < rows.count → last ≤ rows.parent done
      → Progress letter parents done last begin rows log
      → Drained has level g base s0 (done + 1) done last begin (length log.coords) log ps s → s.vars (base + 4) ≡ Some (rows.parent done)
      → s.vars (base + 5) ≡ Some (word_of (rows.first done)) → (last == rows.parent done) ≡ false
      → Does c (turn_code base edges) s (TurnedTo letter has level g base parents rows s0 done ps) (DrainRefusal level rows s0)
  does_turn done last begin log ps s h behind p d parent first other =
      does_append c edges (Set (base + 2) (Var (base + 1)) ∷ Set (base + 3) (Var (base + 4)) ∷ []) s _ _ _
      (does_weaker c edges s _ _ Never (DrainRefusal level rows s0)
      (code.gives last begin (length log.coords) log s may_give d.held d.parent d.from d.appended) (λ t k. k) (λ t a n z. absurd z))
      (λ t k.
      let e = written has level g base s0 (done + 1) done last begin (length log.coords) log
      (with_edges letter last begin (length log.coords) log) ps s t d k.0 k.1 in
      let t2 = set_var t (base + 2) (length log.coords) in
      let t3 = set_var t2 (base + 3) (rows.parent done) in
      does_set c (base + 2) (Var (base + 1)) (Set (base + 3) (Var (base + 4)) ∷ []) t (length log.coords) _ _ e.appended
      (does_set c (base + 3) (Var (base + 4)) [] t2 (rows.parent done) _ _
      (other_var t (base + 2) (base + 4) (length log.coords) (λ e. omega (arith, e)) ∙ k.0.below (base + 4) (omega arith) (λ m. m)
      ∙ parent)
      (does_nothing c t3 _ _ (record {
        begin = length log.coords;
        log = with_edges letter last begin (length log.coords) log;
        progress = step (λ b. code.is_log (with_edges letter last begin (length log.coords) log) t.arrays b k.1);
        drained = record {
          held = k.1;
          at = other_var t2 (base + 3) base (rows.parent done) (λ e. omega (arith, e))
              ∙ other_var t (base + 2) base (length log.coords) (λ e. omega (arith, e)) ∙ e.at;
          appended = other_var t2 (base + 3) (base + 1) (rows.parent done) (λ e. omega (arith, e))
              ∙ other_var t (base + 2) (base + 1) (length log.coords) (λ e. omega (arith, e)) ∙ e.appended ∙ ap Some (ap length (sym same));
          from = other_var t2 (base + 3) (base + 2) (rows.parent done) (λ e. omega (arith, e)) ∙ this_var t (base + 2) (length log.coords);
          parent = this_var t2 (base + 3) (rows.parent done);
          places = e.places;
          leaves = leaves_set NoVariable (Stays level g) base (turns_of Drain (done + 1)) s0 t2 (base + 3) (rows.parent done)
              (λ y l e. omega (arith, l, e))
              (leaves_set NoVariable (Stays level g) base (turns_of Drain (done + 1)) s0 t (base + 2) (length log.coords)
              (λ y l e. omega (arith, l, e)) e.leaves);
        };
        first = other_var t2 (base + 3) (base + 5) (rows.parent done) (λ e. omega (arith, e))
            ∙ other_var t (base + 2) (base + 5) (length log.coords) (λ e. omega (arith, e)) ∙ k.0.below (base + 5) (omega arith) (λ m. m)
            ∙ first;
      }))))
    where
      apart : last ≢ rows.parent done
      apart = grind (arith, nat_tests, other)

      may_give : MayAppendEdges letter last begin (length log.coords) log
      may_give = let w = may.order.within done h in may_turn letter parents done
          (record { last = last; begin = begin; count = length log.coords }) rows log p (omega (arith, behind, apart, w)) refl

      step : ((properties letter).branchless ≡ false → IsLog (with_edges letter last begin (length log.coords) log))
          → Progress letter parents done (rows.parent done) (length log.coords) rows (with_edges letter last begin (length log.coords) log)
      step tells_log =
          subst (λ t. Progress letter parents done (rows.parent done) (if t then begin else length log.coords) rows
          (if t then log else with_edges letter last begin (length log.coords) log)) other
          (subst (λ n. Progress letter parents done (rows.parent done) n rows
          (turned_log letter (record { last = last; begin = begin; count = length log.coords }) (rows.parent done)
          log)) (turned_begin (record { last = last; begin = begin; count = length log.coords }) (rows.parent done)) (turns letter size
          parents done (record { last = last; begin = begin; count = length log.coords }) rows log may h behind refl p
          (λ b. subst (λ t. IsLog (if t then log else with_edges letter last begin (length log.coords) log)) (sym other) (tells_log b))))

      same : (with_edges letter last begin (length log.coords) log).coords ≡ log.coords
      same = edges_coords letter last begin (length log.coords) log

  -- the row's coordinate is appended where it begins a position
  does_first : (done begin : ℕ) (log : Log) (ps : List ℕ) (s : State) → done < rows.count → rows.first done ≡ true
      → Progress letter parents done (rows.parent done) begin rows log
      → Drained has level g base s0 (done + 1) done (rows.parent done) begin (length log.coords) log ps s
      → Does c (first_code base append) s (AddedTo letter has level g base parents rows s0 done ps) (DrainRefusal level rows s0)
  does_first done begin log ps s h is p d =
      does_append c append (Set (base + 1) (Bin Add (Var (base + 1)) (Num 1)) ∷ []) s _ _ _
      (does_weaker c append s _ _ _ (DrainRefusal level rows s0)
      (code.appends (rows.coord done) log s may_come d.held (reads s done h d.at d.leaves.arrays)) (λ t k. k)
      (λ t a n z. (
        refused_turns level g base s0 s (done + 1) rows.count t (omega (arith, h)) d.leaves z.0,
        (length log.coords + 1, z.1, room),
      )))
      (λ t k.
      let e = written has level g base s0 (done + 1) done (rows.parent done) begin (length log.coords) log
      (with_coord (rows.coord done) log) ps s t d k.0 k.1.0 in
      let long : length (log.coords ++ rows.coord done ∷ []) ≡ length log.coords + 1 = length_push log.coords (rows.coord done) in
      let within = k.1.1 in
      let small = positions_are_small in
      let t2 = set_var t (base + 1) (length log.coords + 1) in
      does_set c (base + 1) (Bin Add (Var (base + 1)) (Num 1)) [] t (length log.coords + 1) _ _
      (sum_is (Var (base + 1)) (Num 1) (length log.coords) 1 t e.appended refl (omega (arith, within, small)))
      (does_nothing c t2 _ _ (record {
        begin = begin;
        log = with_coord (rows.coord done) log;
        progress = step (λ b. code.is_log (with_coord (rows.coord done) log) t.arrays b k.1.0);
        drained = record {
          held = k.1.0;
          at = other_var t (base + 1) base (length log.coords + 1) (λ e. omega (arith, e)) ∙ e.at;
          appended = this_var t (base + 1) (length log.coords + 1) ∙ ap Some (sym long);
          from = other_var t (base + 1) (base + 2) (length log.coords + 1) (λ e. omega (arith, e)) ∙ e.from;
          parent = other_var t (base + 1) (base + 3) (length log.coords + 1) (λ e. omega (arith, e)) ∙ e.parent;
          places = e.places;
          leaves = leaves_set NoVariable (Stays level g) base (turns_of Drain (done + 1)) s0 t (base + 1) (length log.coords + 1)
              (λ y l e. omega (arith, l, e)) e.leaves;
        };
      })))
    where
      may_come : MayAppend letter size (rows.coord done) log
      may_come = may_add letter size parents done begin rows log may h is p

      step : ((properties letter).branchless ≡ false → IsLog (with_coord (rows.coord done) log))
          → Progress letter parents (suc done) (rows.parent done) begin rows (with_coord (rows.coord done) log)
      step tells_log = subst (λ t. Progress letter parents (suc done) (rows.parent done) begin rows (added_log t (rows.coord done) log)) is
          (adds letter size parents done begin rows log may h p
          (λ b. subst (λ t. IsLog (added_log t (rows.coord done) log)) (sym is) (tells_log b)))

      room : length log.coords + 1 ≤ begun rows.first rows.count
      room =
          let one = begun_yes rows done is in
          let more = begun_upto rows (suc done) rows.count (omega (arith, h)) in
          let m = p.appended.many in omega (arith, one, more, m)

  -- the row's place is stored, and the next row is due
  does_place : (left done : ℕ) (ps : List ℕ) (s : State) → done + suc left ≡ rows.count → Placing done rows (place rows.first) ps
      → AddedTo letter has level g base parents rows s0 done ps s
      → Does c (place_code base g) s (Draining letter has level g base parents rows s0 left) (DrainRefusal level rows s0)
  does_place left done ps s rest placing a =
      does_put c (ListPositions g) (Var base) (Bin Sub (Var (base + 1)) (Num 1)) (Set base (Bin Add (Var base) (Num 1)) ∷ []) s done
      (length a.log.coords - 1) ps _ _
      a.drained.at
      (difference_is (Var (base + 1)) (Num 1) (length a.log.coords) 1 s a.drained.appended refl words some)
      refl a.drained.places (let m = placing.many in omega (arith, m, rest))
      (does_set c base (Bin Add (Var base) (Num 1)) [] s2 (done + 1) _ _
      (sum_is (Var base) (Num 1) done 1 s2 a.drained.at refl (omega (arith, rest, few)))
      (does_nothing c s3 _ _ (record {
        done = done + 1;
        last = rows.parent done;
        begin = a.begin;
        log = a.log;
        positions = slice_set ps done (length a.log.coords - 1);
        rest = omega (arith, rest);
        progress = subst (λ n. Progress letter parents n (rows.parent done) a.begin rows a.log) next a.progress;
        stands = subst (λ n. Stands n (rows.parent done) rows) next
            (stands_more (properties letter).unique size parents done rows may.order);
        placing = subst (λ n. Placing n rows (place rows.first) (slice_set ps done (length a.log.coords - 1))) next
            (placed_more done rows (place rows.first) ps (length a.log.coords - 1) placing inside here);
        drained = record {
          held =
              code.there a.log s.arrays s3.arrays
              (λ x of. other_array s (ListPositions g) x (slice_set ps done (length a.log.coords - 1))
              (list_apart level g x of)) a.drained.held;
          at = this_var s2 base (done + 1);
          appended = other_var s2 base (base + 1) (done + 1) (λ e. omega (arith, e)) ∙ a.drained.appended;
          from = other_var s2 base (base + 2) (done + 1) (λ e. omega (arith, e)) ∙ a.drained.from;
          parent = other_var s2 base (base + 3) (done + 1) (λ e. omega (arith, e)) ∙ a.drained.parent;
          places = this_array s (ListPositions g) (ListPositions g) (slice_set ps done (length a.log.coords - 1))
              (same_arr_self (ListPositions g));
          leaves = leaves_set NoVariable (Stays level g) base (turns_of Drain (done + 1)) s0 s2 base (done + 1)
              (λ y l e. omega (arith, l, e))
              (leaves_array NoVariable (Stays level g) base (turns_of Drain (done + 1)) s0 s (ListPositions g)
              (slice_set ps done (length a.log.coords - 1)) (λ b k. k.1) a.drained.leaves);
        };
      })))
    where
      s2 : State
      s2 = set_array s (ListPositions g) (slice_set ps done (length a.log.coords - 1))

      s3 : State
      s3 = set_var s2 base (done + 1)

      inside : done < rows.count
      inside = omega (arith, rest)

      next : suc done ≡ done + 1
      next = omega arith

      some : 1 ≤ length a.log.coords
      some = let b = begun_some rows (suc done) (may.order.begins (omega (arith, rest))) (omega arith) in
          let m = a.progress.appended.many in omega (arith, b, m)

      words : length a.log.coords < 2 ^ 64
      words = let b = begun_few rows (suc done) in let m = a.progress.appended.many in omega (arith, b, m, rest, few)

      here : length a.log.coords - 1 ≡ place rows.first done
      here = ap (λ n. n - 1) a.progress.appended.many

  -- what follows the test whether the row has another parent
  does_parent : (done last begin : ℕ) (log : Log) (ps : List ℕ) (rest : List KStmt) (s : State) (Q : State → Type 0) → done < rows.count
      → Stands done last rows → Progress letter parents done last begin rows log
      → Drained has level g base s0 (done + 1) done last begin (length log.coords) log ps s → s.vars (base + 4) ≡ Some (rows.parent done)
      → s.vars (base + 5) ≡ Some (word_of (rows.first done))
      → ((t : State) → TurnedTo letter has level g base parents rows s0 done ps t → Does c rest t Q (DrainRefusal level rows s0))
      → Does c (If (Bin NotEqual (Var (base + 3)) (Var (base + 4))) (turn_code base edges) [] ∷ rest) s Q (DrainRefusal level rows s0)
  does_parent done last begin log ps rest s Q h stands p d parent first next = by_test (last == rows.parent done) refl
    where
      tested : value (Bin NotEqual (Var (base + 3)) (Var (base + 4))) s ≡ Some (word_of (not (last == rows.parent done)))
      tested = binary_is NotEqual (Var (base + 3)) (Var (base + 4)) last (rows.parent done) s d.parent parent

      by_test : (b : Bool) → (last == rows.parent done) ≡ b
          → Does c (If (Bin NotEqual (Var (base + 3)) (Var (base + 4))) (turn_code base edges) [] ∷ rest) s Q (DrainRefusal level rows s0)
      by_test true is =
          let same : last ≡ rows.parent done = grind (arith, nat_tests, is) in
          does_if_no c (Bin NotEqual (Var (base + 3)) (Var (base + 4))) (turn_code base edges) [] rest s
          (TurnedTo letter has level g base parents rows s0 done ps) Q _ (tested ∙ ap (λ b. Some (word_of (not b))) is)
          (does_nothing c s _ _ (record {
            begin = begin;
            log = log;
            progress = subst (λ n. Progress letter parents done n begin rows log) same p;
            drained = subst (λ n. Drained has level g base s0 (done + 1) done n begin (length log.coords) log ps s) same d;
            first = first;
          })) next
      by_test false is =
          does_if_yes c (Bin NotEqual (Var (base + 3)) (Var (base + 4))) (turn_code base edges) [] rest s 0
          (TurnedTo letter has level g base parents rows s0 done ps) Q _ (tested ∙ ap (λ b. Some (word_of (not b))) is)
          (does_turn done last begin log ps s h (stands.behind h) p d parent first is) next

  -- what follows the test whether the row begins a position
  does_begin : (done : ℕ) (ps : List ℕ) (rest : List KStmt) (s : State) (Q : State → Type 0) → done < rows.count
      → TurnedTo letter has level g base parents rows s0 done ps s
      → ((t : State) → AddedTo letter has level g base parents rows s0 done ps t → Does c rest t Q (DrainRefusal level rows s0))
      → Does c (If (Var (base + 5)) (first_code base append) [] ∷ rest) s Q (DrainRefusal level rows s0)
  does_begin done ps rest s Q h a next = by_first (rows.first done) refl
    where
      by_first : (b : Bool) → rows.first done ≡ b → Does c (If (Var (base + 5)) (first_code base append) [] ∷ rest) s Q
          (DrainRefusal level rows s0)
      by_first true is =
          does_if_yes c (Var (base + 5)) (first_code base append) [] rest s 0 (AddedTo letter has level g base parents rows s0 done ps) Q _
          (a.first ∙ ap (λ b. Some (word_of b)) is)
          (does_first done a.begin a.log ps s h is a.progress a.drained) next
      by_first false is =
          does_if_no c (Var (base + 5)) (first_code base append) [] rest s (AddedTo letter has level g base parents rows s0 done ps) Q _
          (a.first ∙ ap (λ b. Some (word_of b)) is)
          (does_nothing c s _ _ (record {
            begin = a.begin;
            log = a.log;
            progress =
                subst (λ t. Progress letter parents (suc done) (rows.parent done) a.begin rows (added_log t (rows.coord done) a.log)) is
                (adds letter size parents done a.begin rows a.log may h a.progress
                (λ b. subst (λ t. IsLog (added_log t (rows.coord done) a.log)) (sym is) (code.is_log a.log s.arrays b a.drained.held)));
            drained = a.drained;
          })) next

  -- one row
  does_row : (left : ℕ) (s : State) → Draining letter has level g base parents rows s0 (suc left) s
      → Does c (row_code base g test append edges) (one_turn s Drain) (Draining letter has level g base parents rows s0 left)
      (DrainRefusal level rows s0)
  does_row left s d =
      let h : d.done < rows.count = let r = d.rest in omega (arith, r) in
      let s1 = one_turn s Drain in
      let many = d.placing.many in
      let d1 = one_drained has level g base s0 d.done d.done d.last d.begin (length d.log.coords) d.log d.positions s d.drained in
      let there : slice_get d.positions d.done ≡ Some (rows.parent d.done) = slice_get-get_or d.positions d.done 0 (omega (arith, h, many))
      ∙ ap Some (d.placing.ahead d.done (omega arith) h) in
      let s2 = set_var s1 (base + 4) (rows.parent d.done) in
      let d2 = set_temp has level g base s0 (d.done + 1) d.done d.last d.begin (length d.log.coords) d.log d.positions s1 (base + 4)
      (rows.parent d.done) (omega arith) d1 in
      let parent = this_var s1 (base + 4) (rows.parent d.done) in
      let s3 = set_var s2 (base + 5) (word_of (rows.first d.done)) in
      let d3 = set_temp has level g base s0 (d.done + 1) d.done d.last d.begin (length d.log.coords) d.log d.positions s2 (base + 5)
      (word_of (rows.first d.done)) (omega arith) d2 in
      does_set c (base + 4) (At (ListPositions g) (Var base)) _ s1 (rows.parent d.done) _ _
      (word_is (ListPositions g) (Var base) d.positions d.done (rows.parent d.done) s1 d1.places d1.at there)
      (does_set c (base + 5) test _ s2 (word_of (rows.first d.done)) _ _
      (tells s2 d.done d.last h d2.at d2.parent parent d.stands.at d2.leaves.arrays)
      (does_parent d.done d.last d.begin d.log d.positions _ s3 _ h d.stands d.progress d3
      (other_var s2 (base + 5) (base + 4) (word_of (rows.first d.done)) (λ e. omega (arith, e))
      ∙ parent) (this_var s2 (base + 5) (word_of (rows.first d.done)))
      (λ t a. does_begin d.done d.positions _ t _ h a
      (λ u b. does_place left d.done d.positions u d.rest d.placing b))))

  -- the test of the loop
  test_yes : (s : State) (left : ℕ) → Draining letter has level g base parents rows s0 (suc left) s
      → value (Bin Less (Var base) (Len (Sums w))) s ≡ Some 1
  test_yes s left d = let r = d.rest in less_yes (Var base) (Len (Sums w)) d.done (length values) s d.drained.at
      (long s d.drained.leaves.arrays) (omega (arith, r, many))
    where
      long : (s : State) → ((a : Arr) → Stays level g a → s.arrays a ≡ s0.arrays a) → value (Len (Sums w)) s ≡ Some (length values)
      long s k = ap length_of (k (Sums w) (λ of. of, refl) ∙ values_are)

  test_no : (s : State) → Draining letter has level g base parents rows s0 0 s → value (Bin Less (Var base) (Len (Sums w))) s ≡ Some 0
  test_no s d = let r = d.rest in less_no (Var base) (Len (Sums w)) d.done (length values) s d.drained.at (long s d.drained.leaves.arrays)
      (omega (arith, r, many))
    where
      long : (s : State) → ((a : Arr) → Stays level g a → s.arrays a ≡ s0.arrays a) → value (Len (Sums w)) s ≡ Some (length values)
      long s k = ap length_of (k (Sums w) (λ of. of, refl) ∙ values_are)

  ends : (n : ℕ) (s : State) → Draining letter has level g base parents rows s0 n s → value (Bin Less (Var base) (Len (Sums w))) s ≡ Some 0
      → Draining letter has level g base parents rows s0 0 s
  ends zero s d z = d
  ends (suc n) s d z = absurd (apart (sym (test_yes s n d) ∙ z))
    where
      same : (x y : ℕ) → Some x ≡ Some y → x ≡ y
      same x y e = cc

      never : (x y : ℕ) → x ≡ y + 1 → y ≡ 0 → x ≡ 0 → ⊥
      never x y e f z = omega (arith, e, f, z)

      apart : ◌≡◌ {A = Option ℕ} (Some 1) (Some 0) → ⊥
      apart e = never 1 0 (omega arith) (omega arith) (same 1 0 e)

  -- the last parent is given its positions, if there are rows
  does_close : (s : State) → Draining letter has level g base parents rows s0 0 s
      → Does c (If (Var (base + 1)) edges [] ∷ []) s (AllDrained has level g base parents rows s0) (DrainRefusal level rows s0)
  does_close s d = by_count (length d.log.coords) refl
    where
      done : d.done ≡ rows.count
      done = let r = d.rest in omega (arith, r)

      p : Progress letter parents rows.count d.last d.begin rows d.log
      p = subst (λ n. Progress letter parents n d.last d.begin rows d.log) done d.progress

      placed : Placing rows.count rows (place rows.first) d.positions
      placed = subst (λ n. Placing n rows (place rows.first) d.positions) done d.placing

      leaves : Leaves NoVariable (Stays level g) base (turns_of Drain rows.count) s0 s
      leaves = subst (λ n. Leaves NoVariable (Stays level g) base (turns_of Drain n) s0 s) done d.drained.leaves

      some_rows : length d.log.coords ≢ 0 → 0 < rows.count
      some_rows away = let m = p.appended.many in let f = begun_few rows rows.count in omega (arith, m, f, away)

      no_rows : length d.log.coords ≡ 0 → rows.count ≡ 0
      no_rows is = by_some (cases_lt 0 rows.count)
        where
          by_some : (0 < rows.count) ⊎ (rows.count ≤ 0) → rows.count ≡ 0
          by_some (inl l) = let b = begun_some rows rows.count (may.order.begins l) l in let m = p.appended.many in
              absurd (omega (arith, b, m, is))
          by_some (inr l) = omega (arith, l)

      last_is : (i : ℕ) → rows.count ≡ suc i → d.last ≡ rows.parent i
      last_is i more = d.stands.at i (done ∙ more)

      by_count : (n : ℕ) → length d.log.coords ≡ n → Does c (If (Var (base + 1)) edges [] ∷ []) s
          (AllDrained has level g base parents rows s0) (DrainRefusal level rows s0)
      by_count zero is =
          does_if_no c (Var (base + 1)) edges [] [] s (AllDrained has level g base parents rows s0) _ _ (d.drained.appended ∙ ap Some is)
          (does_nothing c s _ _ (record {
            log = d.log;
            held = d.drained.held;
            filled = fills letter size parents (record { last = d.last; begin = d.begin; count = length d.log.coords }) false rows d.log may
                (λ i more. let none = no_rows is in absurd (omega (arith, none, more))) (λ e. absurd (never (sym e))) refl p
                (λ e. absurd (never (sym e)));
            positions = d.positions;
            places = d.drained.places;
            placed = placed;
            count = d.drained.appended ∙ ap Some p.appended.many;
            leaves = leaves;
          })) (λ t a. does_nothing c t _ _ a)
        where
          never : true ≡ false → ⊥
          never e = cc
      by_count (suc n) is =
          does_if_yes c (Var (base + 1)) edges [] [] s n (AllDrained has level g base parents rows s0) _ _ (d.drained.appended ∙ ap Some is)
          (does_weaker c edges s _ _ Never (DrainRefusal level rows s0)
          (code.gives d.last d.begin (length d.log.coords) d.log s may_give d.drained.held d.drained.parent d.drained.from
          d.drained.appended)
          (λ t k.
          let e = written has level g base s0 d.done d.done d.last d.begin (length d.log.coords) d.log
          (with_edges letter d.last d.begin (length d.log.coords) d.log) d.positions s t d.drained k.0 k.1 in
          record {
            log = with_edges letter d.last d.begin (length d.log.coords) d.log;
            held = k.1;
            filled = fills letter size parents (record { last = d.last; begin = d.begin; count = length d.log.coords }) true rows d.log may
                (λ i more. (refl, last_is i more)) (λ _. some) refl p
                (λ _ b. code.is_log (with_edges letter d.last d.begin (length d.log.coords) d.log) t.arrays b k.1);
            positions = d.positions;
            places = e.places;
            placed = placed;
            count = e.appended ∙ ap Some p.appended.many;
            leaves = subst (λ n. Leaves NoVariable (Stays level g) base (turns_of Drain n) s0 t) done e.leaves;
          })
          (λ t a n z. absurd z)) (λ t a. does_nothing c t _ _ a)
        where
          some : 0 < rows.count
          some = some_rows (λ none. omega (arith, none, is))

          before : rows.count ≡ suc (rows.count - 1)
          before = omega (arith, some)

          may_give : MayAppendEdges letter d.last d.begin (length d.log.coords) d.log
          may_give =
              let at = last_is (rows.count - 1) before in
              let l = may.order.within (rows.count - 1) (omega (arith, some)) in
              may_turn letter parents rows.count (record { last = d.last; begin = d.begin; count = length d.log.coords }) rows d.log p
              (omega (arith, at, l)) refl

  -- all rows are drained, or a growth is refused with at most as many positions as the rows begin
  pub does_drain : (log : Log) (ps : List ℕ) → has log s0.arrays → Progress letter parents 0 0 0 rows log
      → s0.arrays (ListPositions g) ≡ Some ps → Placing 0 rows (place rows.first) ps
      → Does c (drain_code base w g test append edges) s0 (AllDrained has level g base parents rows s0) (DrainRefusal level rows s0)
  does_drain log ps held ready places placing =
      let s1 = set_var s0 base 0 in
      let s2 = set_var s1 (base + 1) 0 in
      let s3 = set_var s2 (base + 2) 0 in
      let s4 = set_var s3 (base + 3) 0 in
      does_set c base (Num 0) _ s0 0 _ _ refl
      (does_set c (base + 1) (Num 0) _ s1 0 _ _ refl
      (does_set c (base + 2) (Num 0) _ s2 0 _ _ refl
      (does_set c (base + 3) (Num 0) _ s3 0 _ _ refl
      (does_while c Drain (Bin Less (Var base) (Len (Sums w))) (row_code base g test append edges) (If (Var (base + 1)) edges [] ∷ [])
      (Draining letter has level g base parents rows s0) (Draining letter has level g base parents rows s0 0) _ _
      test_no ends (λ n s d. Goes 0 (test_yes s n d) (does_row n s d)) rows.count s4
      (record {
        done = 0;
        last = 0;
        begin = 0;
        log = log;
        positions = ps;
        rest = omega arith;
        progress = ready;
        stands = stands_none rows;
        placing = placing;
        drained = record {
          held = held;
          at = other_var s3 (base + 3) base 0 (λ e. omega (arith, e)) ∙ other_var s2 (base + 2) base 0 (λ e. omega (arith, e))
              ∙ other_var s1 (base + 1) base 0 (λ e. omega (arith, e)) ∙ this_var s0 base 0;
          appended = other_var s3 (base + 3) (base + 1) 0 (λ e. omega (arith, e))
              ∙ other_var s2 (base + 2) (base + 1) 0 (λ e. omega (arith, e)) ∙ this_var s1 (base + 1) 0 ∙ ap Some (sym ready.appended.many);
          from = other_var s3 (base + 3) (base + 2) 0 (λ e. omega (arith, e)) ∙ this_var s2 (base + 2) 0;
          parent = this_var s3 (base + 3) 0;
          places = places;
          leaves = record {
            below = λ y l m. other_var s3 (base + 3) y 0 (λ e. omega (arith, l, e)) ∙ other_var s2 (base + 2) y 0 (λ e. omega (arith, l, e))
                ∙ other_var s1 (base + 1) y 0 (λ e. omega (arith, l, e)) ∙ other_var s0 base y 0 (λ e. omega (arith, l, e));
            arrays = λ a k. refl;
            turns = λ k. omega arith;
          };
        };
      })
      does_close))))
