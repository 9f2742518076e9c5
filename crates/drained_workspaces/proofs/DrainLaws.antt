-- The loop that drains a workspace into a sink, by the code of its parts.
use Rattle.std.specs.Prelude.{◌≡◌, ℕ, suc, ◌+◌, ◌≤◌, ◌<◌, ◌^◌, true, false, if◌then◌else◌, List, [], ◌∷◌, ◌++◌, length}
use Rattle.std.specs.Prelude.{Option, Some, refl}
use Rattle.std.specs.List.{range_with_len}
use Rattle.std.proofs.Common.{◌∙◌, sym, ap, subst, arith}
use Rattle.std.proofs.lemmas.List.{append_assoc, append-nil, length-append}
use Rattle.limits.proofs.Limits.{workspace_pairs_are_small}
use Rattle.kernel_code.specs.declared.syntax.Arr.{Arr}
use Rattle.kernel_code.specs.declared.syntax.Arr.TheVariants.{Range}
use Rattle.kernel_code.specs.declared.syntax.LoopKind.{LoopKind}
use Rattle.kernel_code.specs.declared.syntax.LoopKind.TheVariants.{Drain}
use Rattle.kernel_code.specs.declared.syntax.Op.TheVariants.{Add}
use Rattle.kernel_code.specs.declared.syntax.KExpr.{KExpr, Num, Var, Bin}
use Rattle.kernel_code.specs.declared.syntax.KStmt.{KStmt, Set}
use Rattle.kernel_code.specs.Does.{Does, Never, Refusal, Turn, Ends, Goes}
use Rattle.kernel_code.specs.Keeps.{Leaves, NoVariable, no_turns}
use Rattle.kernel_code.specs.Meaning.{Setting, State, value, one_turn, same_kind, set_var}
use Rattle.kernel_code.proofs.Does.{does_append, does_nothing, does_set, does_while, does_weaker}
use Rattle.kernel_code.proofs.Keeps.{this_var, other_var}
use Rattle.kernel_code.proofs.Words.{sum_is}
use Rattle.level_core.specs.Fragments.{RefusedWithin, turns_of}
use Rattle.tensor_map.specs.Entries.{Entry}
use Rattle.result_targets.specs.Beside.{LeavesLists}
use Rattle.result_targets.specs.Scratch.{IsThere}
use Rattle.result_targets.specs.Sinks.{Sink, SinkLaws, AddsTo, VarsAre, TakesAll}
use Rattle.result_targets.proofs.Scratch.{all_same}
use Rattle.result_targets.proofs.Taken.{takes_second}
use Rattle.drained_workspaces.specs.Draining.{Draining, DrainingLaws, Sorts, TellsWaiting, TakesRow, IsTaken, Empties}
use Rattle.drained_workspaces.specs.Drained.{prefixed_row, prefixed, KeptByBoth, IsOfHead, MayDrain, HasDrained, DrainsInto}
use Rattle.drained_workspaces.specs.Drained.{SameBeside, turn_code, drain_code}
use Rattle.drained_workspaces.proofs.Prefixes.{prefixed_between, vars_both, vars_stay}

-- the turns of a drain
one_drain : (s : State) (j : LoopKind) → (one_turn s Drain).turns j ≡ s.turns j + turns_of Drain 1 j
one_drain s j = elim (same_kind Drain j) as (λ b. (if b then s.turns j + 1 else s.turns j) ≡ s.turns j + (if b then 1 else 0))
    [ true ↦ refl | false ↦ omega arith ]

one_drain_more : (n : ℕ) (j : LoopKind) → turns_of Drain (n + 1) j ≡ turns_of Drain n j + turns_of Drain 1 j
one_drain_more n j = elim (same_kind Drain j) as (λ b. (if b then n + 1 else 0) ≡ (if b then n else 0) + (if b then 1 else 0))
    [ true ↦ refl | false ↦ refl ]

drains_upto : (n m : ℕ) (j : LoopKind) → n ≤ m → turns_of Drain n j ≤ turns_of Drain m j
drains_upto n m j h = elim (same_kind Drain j) as (λ b. (if b then n else 0) ≤ (if b then m else 0)) [ true ↦ h | false ↦ omega arith ]

one_more : (taken : List Entry) (row : Entry) → length (taken ++ row ∷ []) ≡ length taken + 1
one_more taken row = length-append taken (row ∷ [])

zero_one : (o : Option ℕ) → o ≡ Some 0 → o ≡ Some 1 → ⊥
zero_one o h g = cc

-- a workspace leaves scratch lists, so where the arrays are that it leaves, all are but its own
pub all_beside : {W : Type 0} (inner : Sink W) (w : W) → LeavesLists inner w → (s t : State)
    → ((b : Arr) → inner.kept w b → t.arrays b ≡ s.arrays b) → SameBeside inner w s t
all_beside inner w lists s t arrays = record {
  same = λ b no kept. arrays b kept;
  there = λ b is there. subst IsThere (sym (arrays b (lists b is))) there;
}

module _ {K W : Type 0} (outer : Sink K) (outer_laws : SinkLaws outer) (k : K) (inner : Sink W) (drains : Draining W)
    (drain_laws : DrainingLaws inner drains) (w : W) (head : List ℕ) (free : ℕ) (test : KExpr) (sort take add empty : List KStmt)
    (sorts : Sorts inner drains w sort) (tells : TellsWaiting drains w free test) (takes : TakesRow inner drains w free (free + 1) take)
    (adds : AddsTo outer k (head ++ range_with_len (free + 1) (inner.keys w)) (free + 1 + inner.keys w) (free + 1 + inner.keys w + 1) add)
    (empties : Empties inner drains w empty)
    (c : Setting) (ranges inner_ranges : List ℕ) (rows sums before : List Entry) (coords : List ℕ) (s0 : State)
    (m : MayDrain outer k inner drains w head free c ranges rows sums before coords s0)
    (holds : inner.holds w c.arithmetic inner_ranges rows s0) where
  abbrev Refused : Refusal
  Refused = RefusedWithin (turns_of Drain (length sums)) s0 (outer.refused k ranges (before ++ prefixed coords sums))

  abbrev leaves_so_far : List Entry → State → Type 0
  leaves_so_far taken s = Leaves (outer.mine k) (KeptByBoth outer k inner w) free (turns_of Drain (length taken)) s0 s

  -- these sums were taken and those wait
  record Inv (left : ℕ) (s : State) : Type 0 where
    taken : List Entry
    waiting : List Entry
    all : taken ++ waiting ≡ sums
    bound : length waiting ≤ left
    place : s.vars free ≡ Some (length taken)
    draining : drains.draining w c.arithmetic inner_ranges taken waiting s
    held : outer.holds k c.arithmetic ranges (before ++ prefixed coords taken) s
    leaves : leaves_so_far taken s

  -- all were taken
  record Done (s : State) : Type 0 where
    draining : drains.draining w c.arithmetic inner_ranges sums [] s
    held : outer.holds k c.arithmetic ranges (before ++ prefixed coords sums) s
    leaves : leaves_so_far sums s

  -- no row waits
  ended : (s : State) (taken : List Entry) → taken ++ [] ≡ sums → drains.draining w c.arithmetic inner_ranges taken [] s
      → outer.holds k c.arithmetic ranges (before ++ prefixed coords taken) s → leaves_so_far taken s → Done s
  ended s taken all draining held leaves =
      let is : taken ≡ sums = sym (append-nil taken) ∙ all in
      record {
        draining = subst (λ es. drains.draining w c.arithmetic inner_ranges es [] s) is draining;
        held = subst (λ es. outer.holds k c.arithmetic ranges (before ++ prefixed coords es) s) is held;
        leaves = subst (λ es. leaves_so_far es s) is leaves;
      }

  -- a row waits: it is taken and added
  module _ (left : ℕ) (s : State) (taken : List Entry) (row : Entry) (waiting : List Entry) (all : taken ++ row ∷ waiting ≡ sums)
      (bound : length (row ∷ waiting) ≤ suc left) (place : s.vars free ≡ Some (length taken))
      (draining : drains.draining w c.arithmetic inner_ranges taken (row ∷ waiting) s)
      (held : outer.holds k c.arithmetic ranges (before ++ prefixed coords taken) s) (leaves : leaves_so_far taken s) where
    start : State
    start = one_turn s Drain

    added : Entry
    added = prefixed_row coords row

    long : length taken + 1 ≤ length sums
    long =
        let l = length-append taken (row ∷ waiting) in
        let a = ap (λ (es : List Entry). length es) all in
        omega (arith, l, a)

    small : length taken + 1 < 2 ^ 64
    small =
        let l = length-append taken (row ∷ waiting) in
        let f = drain_laws.few w c.arithmetic inner_ranges taken (row ∷ waiting) s draining in
        let p = workspace_pairs_are_small in
        omega (arith, l, f, p)

    sums_split : prefixed coords sums ≡ prefixed coords taken ++ prefixed_row coords row ∷ prefixed coords waiting
    sums_split = ap (prefixed coords) (sym all) ∙ prefixed_between coords taken row waiting

    rows_split : before ++ prefixed coords sums
        ≡ ((before ++ prefixed coords taken) ++ prefixed_row coords row ∷ []) ++ prefixed coords waiting
    rows_split =
        ap (λ es. before ++ es) sums_split
        ∙ sym (append_assoc before (prefixed coords taken) (prefixed_row coords row ∷ prefixed coords waiting))
        ∙ sym (append_assoc (before ++ prefixed coords taken) (prefixed_row coords row ∷ []) (prefixed coords waiting))

    rows_added : (before ++ prefixed coords taken) ++ prefixed_row coords row ∷ [] ≡ before ++ prefixed coords (taken ++ row ∷ [])
    rows_added =
        append_assoc before (prefixed coords taken) (prefixed_row coords row ∷ [])
        ∙ ap (λ es. before ++ es) (sym (prefixed_between coords taken row []))

    takes_it : outer.takes k ranges (before ++ prefixed coords taken) (prefixed_row coords row)
    takes_it =
        (takes_second outer k ranges before (prefixed coords taken) (prefixed_row coords row ∷ prefixed coords waiting)
        (subst (TakesAll outer k ranges before) sums_split m.takes)).0

    turns_here : (j : LoopKind) → (one_turn s Drain).turns j ≤ s0.turns j + turns_of Drain (length taken + 1) j
    turns_here j =
        let t = leaves.turns j in
        let o = one_drain s j in
        let more = one_drain_more (length taken) j in
        omega (arith, t, o, more)

    place_other : outer.mine k free → ⊥
    place_other is = let b = m.mine_below free is in omega (arith, b)

    -- past the take
    module _ (t1 : State) (h : IsTaken inner drains w c.arithmetic inner_ranges (free + 1) taken row waiting (one_turn s Drain) t1) where
      held_still : outer.holds k c.arithmetic ranges (before ++ prefixed coords taken) t1
      held_still =
          m.beside.stays c.arithmetic ranges (before ++ prefixed coords taken) s t1
          (λ y is. let b = m.mine_below y is in h.leaves.below y (omega (arith, b)) (λ none. none))
          (all_beside inner w (drain_laws.lists w) s t1 (λ b kept. h.leaves.arrays b kept)) held

      keys_are : VarsAre (head ++ range_with_len (free + 1) (inner.keys w)) (coords ++ row.coords) t1
      keys_are =
          vars_both head coords (range_with_len (free + 1) (inner.keys w)) row.coords t1
          (vars_stay (IsOfHead outer k free) head coords s0 t1 m.head_is
          (λ y is. let b = is.below in h.leaves.below y (omega (arith, b)) (λ none. none) ∙ leaves.below y is.below is.other) m.coords_are)
          h.coordinates

      -- past the row
      again : (t2 : State) → Leaves (outer.mine k) (outer.kept k) (free + 1 + inner.keys w + 1) no_turns t1 t2
          → outer.holds k c.arithmetic ranges ((before ++ prefixed coords taken) ++ prefixed_row coords row ∷ []) t2
          → Inv left (set_var t2 free (length taken + 1))
      again t2 d now =
          let n = length taken + 1 in
          let t3 = set_var t2 free n in
          record {
            taken = taken ++ row ∷ [];
            waiting = waiting;
            all = append_assoc taken (row ∷ []) waiting ∙ all;
            bound = omega (arith, bound);
            place = this_var t2 free n ∙ ap Some (sym (one_more taken row));
            draining = drain_laws.stays w c.arithmetic inner_ranges (taken ++ row ∷ []) waiting t1 t3
                (λ b out. d.arrays b (m.beside.leaves b out)) (d.arrays Range m.beside.ranges) h.draining;
            held = subst (λ es. outer.holds k c.arithmetic ranges es t3) rows_added
                (outer_laws.same k c.arithmetic ranges ((before ++ prefixed coords taken) ++ prefixed_row coords row ∷ []) t2 t3
                (λ y is. other_var t2 free y n (λ e. let b = m.mine_below y is in omega (arith, b, e))) (all_same t2 t3 (λ b. refl)) now);
            leaves = record {
              below = λ y l other. other_var t2 free y n (λ e. omega (arith, l, e)) ∙ d.below y (omega (arith, l)) other
                  ∙ h.leaves.below y (omega (arith, l)) (λ none. none) ∙ leaves.below y l other;
              arrays = λ b kept. d.arrays b kept.0 ∙ h.leaves.arrays b kept.1 ∙ leaves.arrays b kept;
              turns = λ j.
                  let first = turns_here j in
                  let taking = h.leaves.turns j in
                  let adding = d.turns j in
                  let same = ap (λ n. turns_of Drain n j) (one_more taken row) in
                  omega (arith, first, taking, adding, same);
            };
          }

      refused_more : (t : LoopKind → ℕ) (b : Arr) (count : ℕ)
          → RefusedWithin no_turns t1 (outer.refused k ranges ((before ++ prefixed coords taken) ++ prefixed_row coords row ∷ [])) t b count
          → Refused t b count
      refused_more t b count r = (
        λ j.
            let first = turns_here j in
            let taking = h.leaves.turns j in
            let until = r.0 j in
            let more = drains_upto (length taken + 1) (length sums) j long in
            omega (arith, first, taking, until, more),
        subst (λ es. outer.refused k ranges es b count) (sym rows_split)
            (outer_laws.more k ranges ((before ++ prefixed coords taken) ++ prefixed_row coords row ∷ []) (prefixed coords waiting) b count
            r.1),
      )

      adds_and_steps : Does c (add ++ Set free (Bin Add (Var free) (Num 1)) ∷ []) t1 (Inv left) Refused
      adds_and_steps =
          does_append c add (Set free (Bin Add (Var free) (Num 1)) ∷ []) t1 _ (Inv left) Refused
          (does_weaker c add t1 _ _ _ Refused
          (adds c m.laws (λ y is. let b = m.mine_below y is in omega (arith, b)) ranges (before ++ prefixed coords taken)
          (prefixed_row coords row) takes_it t1 keys_are h.value_is held_still)
          (λ t2 d. d) (λ t b count r. refused_more t b count r))
          (λ t2 d. does_set c free (Bin Add (Var free) (Num 1)) [] t2 (length taken + 1) (Inv left) Refused
          (sum_is (Var free) (Num 1) (length taken) 1 t2
          (d.0.below free (omega arith) place_other ∙ h.leaves.below free (omega arith) (λ none. none) ∙ place) refl small)
          (does_nothing c (set_var t2 free (length taken + 1)) (Inv left) Refused (again t2 d.0 d.1)))

    does_turn : Does c (turn_code free take add) (one_turn s Drain) (Inv left) Refused
    does_turn =
        does_append c take (add ++ Set free (Bin Add (Var free) (Num 1)) ∷ []) (one_turn s Drain) _ (Inv left) Refused
        (does_weaker c take (one_turn s Drain) _ _ Never Refused
        (takes c m.laws inner_ranges taken row waiting (one_turn s Drain)
        (drain_laws.stays w c.arithmetic inner_ranges taken (row ∷ waiting) s (one_turn s Drain) (λ b out. refl) refl draining) place)
        (λ t q. q) (λ t b count z. absurd z))
        (λ t1 h. adds_and_steps t1 h)

  turn : (left : ℕ) (s : State) → Inv (suc left) s → Turn c Drain test (turn_code free take add) s (Inv left) Done Refused
  turn left s i = by i.taken i.waiting i.all i.bound i.place i.draining i.held i.leaves
    where
      by : (taken waiting : List Entry) → taken ++ waiting ≡ sums → length waiting ≤ suc left → s.vars free ≡ Some (length taken)
          → drains.draining w c.arithmetic inner_ranges taken waiting s
          → outer.holds k c.arithmetic ranges (before ++ prefixed coords taken) s → leaves_so_far taken s
          → Turn c Drain test (turn_code free take add) s (Inv left) Done Refused
      by taken [] all bound place draining held leaves =
          Ends (tells.none c.arithmetic inner_ranges taken s draining place) (ended s taken all draining held leaves)
      by taken (row ∷ waiting) all bound place draining held leaves =
          Goes 0 (tells.some c.arithmetic inner_ranges taken row waiting s draining place)
          (does_turn left s taken row waiting all bound place draining held leaves)

  at_end : (left : ℕ) (s : State) → Inv left s → value test s ≡ Some 0 → Done s
  at_end left s i z = by i.taken i.waiting i.all i.place i.draining i.held i.leaves
    where
      by : (taken waiting : List Entry) → taken ++ waiting ≡ sums → s.vars free ≡ Some (length taken)
          → drains.draining w c.arithmetic inner_ranges taken waiting s
          → outer.holds k c.arithmetic ranges (before ++ prefixed coords taken) s → leaves_so_far taken s → Done s
      by taken [] all place draining held leaves = ended s taken all draining held leaves
      by taken (row ∷ waiting) all place draining held leaves =
          absurd (zero_one (value test s) z (tells.some c.arithmetic inner_ranges taken row waiting s draining place))

  none_more : (s : State) → Inv 0 s → value test s ≡ Some 0
  none_more s i = by i.taken i.waiting i.bound i.place i.draining
    where
      by : (taken waiting : List Entry) → length waiting ≤ 0 → s.vars free ≡ Some (length taken)
          → drains.draining w c.arithmetic inner_ranges taken waiting s → value test s ≡ Some 0
      by taken [] bound place draining = tells.none c.arithmetic inner_ranges taken s draining place
      by taken (row ∷ waiting) bound place draining = absurd (omega (arith, bound))

  -- once the rows are sorted and summed
  first_of_all : (t : State) → Leaves NoVariable (inner.kept w) free no_turns s0 t → drains.draining w c.arithmetic inner_ranges [] sums t
      → Inv (length sums) (set_var t free 0)
  first_of_all t l draining = record {
    taken = [];
    waiting = sums;
    all = refl;
    bound = omega arith;
    place = this_var t free 0;
    draining = drain_laws.stays w c.arithmetic inner_ranges [] sums t (set_var t free 0) (λ b out. refl) refl draining;
    held = subst (λ es. outer.holds k c.arithmetic ranges es (set_var t free 0)) (sym (append-nil before))
        (m.beside.stays c.arithmetic ranges before s0 (set_var t free 0)
        (λ y is.
        let b = m.mine_below y is in
        other_var t free y 0 (λ e. omega (arith, b, e)) ∙ l.below y b (λ none. none))
        (all_beside inner w (drain_laws.lists w) s0 (set_var t free 0) (λ b kept. l.arrays b kept)) m.held);
    leaves = record {
      below = λ y low other. other_var t free y 0 (λ e. omega (arith, low, e)) ∙ l.below y low (λ none. none);
      arrays = λ b kept. l.arrays b kept.1;
      turns = λ j. let turns = l.turns j in omega (arith, turns);
    };
  }

  -- once the workspace is emptied
  at_last : (t u : State) → Done t → Leaves NoVariable (inner.kept w) free no_turns t u → inner.holds w c.arithmetic inner_ranges [] u
      → HasDrained outer k inner w free c.arithmetic ranges inner_ranges sums before coords s0 u
  at_last t u d l empty = record {
    leaves = record {
      below = λ y low other. l.below y low (λ none. none) ∙ d.leaves.below y low other;
      arrays = λ b kept. l.arrays b kept.1 ∙ d.leaves.arrays b kept;
      turns = λ j. let first = d.leaves.turns j in let turns = l.turns j in omega (arith, first, turns);
    };
    held = m.beside.stays c.arithmetic ranges (before ++ prefixed coords sums) t u
        (λ y is. l.below y (m.mine_below y is) (λ none. none))
        (all_beside inner w (drain_laws.lists w) t u (λ b kept. l.arrays b kept)) d.held;
    empty = empty;
  }

  drains_rows : Does c (drain_code free test sort (turn_code free take add) empty) s0
      (HasDrained outer k inner w free c.arithmetic ranges inner_ranges sums before coords s0) Refused
  drains_rows =
      does_append c sort _ s0 _ _ Refused
      (does_weaker c sort s0 _ _ Never Refused (sorts c m.laws m.suits inner_ranges rows sums m.are_sums m.are_words s0 holds free)
      (λ t q. q) (λ t b count z. absurd z))
      (λ t q. does_set c free (Num 0) _ t 0 _ Refused refl
      (does_while c Drain test (turn_code free take add) empty Inv Done _ Refused none_more at_end turn (length sums) (set_var t free 0)
      (first_of_all t q.0 q.1)
      (λ u d. does_weaker c empty u _ _ Never Refused (empties c inner_ranges sums u d.draining free) (λ v e. at_last u v d e.0 e.1)
      (λ t b count z. absurd z))))

pub drains_into : {K W : Type 0} (outer : Sink K) → SinkLaws outer → (k : K) (inner : Sink W) (drains : Draining W)
    → DrainingLaws inner drains → (w : W) (head : List ℕ) (free : ℕ) (test : KExpr) (sort take add empty turn code : List KStmt)
    → Sorts inner drains w sort → TellsWaiting drains w free test → TakesRow inner drains w free (free + 1) take
    → AddsTo outer k (head ++ range_with_len (free + 1) (inner.keys w)) (free + 1 + inner.keys w) (free + 1 + inner.keys w + 1) add
    → Empties inner drains w empty → turn ≡ turn_code free take add → code ≡ drain_code free test sort turn empty
    → DrainsInto outer k inner drains w head free code
drains_into outer outer_laws k inner drains drain_laws w head free test sort take add empty turn code sorts tells takes adds empties turn_is
    code_is =
    subst (DrainsInto outer k inner drains w head free)
    (sym (code_is ∙ ap (λ body. drain_code free test sort body empty) turn_is))
    (λ c ranges inner_ranges rows sums before coords s m holds.
    drains_rows outer outer_laws k inner drains drain_laws w head free test sort take add empty sorts tells takes adds empties c ranges
    inner_ranges rows sums before coords s m holds)
