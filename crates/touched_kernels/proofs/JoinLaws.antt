-- The loop that takes all rows of a workspace of one key.
use Rattle.std.specs.Prelude.{◌≡◌, ℕ, suc, ◌+◌, ◌≤◌, ◌<◌, ◌^◌, true, false, if◌then◌else◌, List, [], ◌∷◌, ◌++◌, length}
use Rattle.std.specs.Prelude.{Option, Some, refl}
use Rattle.std.proofs.Common.{◌∙◌, sym, ap, subst, arith}
use Rattle.std.proofs.lemmas.List.{append_assoc, append-nil, length-append}
use Rattle.limits.proofs.Limits.{workspace_pairs_are_small}
use Rattle.numbers.specs.Arithmetic.{Laws}
use Rattle.kernel_code.specs.declared.syntax.LoopKind.{LoopKind}
use Rattle.kernel_code.specs.declared.syntax.LoopKind.TheVariants.{Drain}
use Rattle.kernel_code.specs.declared.syntax.Op.TheVariants.{Add}
use Rattle.kernel_code.specs.declared.syntax.KExpr.{KExpr, Num, Var, Bin}
use Rattle.kernel_code.specs.declared.syntax.KStmt.{KStmt, Set, SortSum, While}
use Rattle.kernel_code.specs.Does.{Does, Never, Turn, Ends, Goes}
use Rattle.kernel_code.specs.Keeps.{Leaves, NoVariable, no_turns}
use Rattle.kernel_code.specs.Meaning.{Setting, State, value, one_turn, same_kind, set_var}
use Rattle.kernel_code.proofs.Does.{does_append, does_nothing, does_set, does_then, does_while}
use Rattle.kernel_code.proofs.Keeps.{this_var, other_var}
use Rattle.kernel_code.proofs.Words.{sum_is}
use Rattle.level_core.specs.Fragments.{turns_of}
use Rattle.tensor_map.specs.Entries.{Entry}
use Rattle.concrete_notation.specs.Contributions.{sums_of}
use Rattle.touched_workspaces.specs.DrainedLaws.{draining_stays}
use Rattle.touched_workspaces.specs.Drains.{IsDraining, TakesNext, TellsWaiting}
use Rattle.touched_workspaces.specs.Sinks.{IsOther}
use Rattle.touched_workspaces.specs.declared.sink.TouchedSink.{TouchedSink}
use Rattle.touched_workspaces.proofs.DrainLaws.{taken_all}
use Rattle.touched_workspaces.proofs.SortLaws.{sorting_touched}
use Rattle.touched_kernels.specs.Sums.{join_code, sum_code, LeavesListed, SumsTouched}

-- one turn more
one_more_turn : (s0 s : State) (n : ℕ) (j : LoopKind) → s.turns j ≤ s0.turns j + turns_of Drain n j
    → (one_turn s Drain).turns j ≤ s0.turns j + turns_of Drain (n + 1) j
one_more_turn s0 s n j h =
    elim (same_kind Drain j) as (λ b. s.turns j ≤ s0.turns j + (if b then n else 0)
    → (if b then s.turns j + 1 else s.turns j) ≤ s0.turns j + (if b then n + 1 else 0)) [
      | true ↦ λ g. omega (arith, g)
      | false ↦ λ g. g
    ] h

one_more : (taken : List Entry) (row : Entry) → length (taken ++ row ∷ []) ≡ length taken + 1
one_more taken row = length-append taken (row ∷ [])

zero_one : (o : Option ℕ) → o ≡ Some 0 → o ≡ Some 1 → ⊥
zero_one o h g = cc

module _ (k : TouchedSink) (at : ℕ) (test : KExpr) (take : List KStmt) (takes : TakesNext k at (at + 1) take)
    (tells : TellsWaiting k at test) (c : Setting) (laws : Laws c.arithmetic) (size : ℕ) (sums : List Entry) (s0 : State) where
  abbrev leaves_so_far : List Entry → State → Type 0
  leaves_so_far taken s = Leaves NoVariable (IsOther k) at (turns_of Drain (length taken)) s0 s

  -- these rows were taken and those wait
  record Inv (left : ℕ) (s : State) : Type 0 where
    taken : List Entry
    waiting : List Entry
    all : taken ++ waiting ≡ sums
    bound : length waiting ≤ left
    place : s.vars at ≡ Some (length taken)
    draining : IsDraining k c.arithmetic size taken waiting s
    leaves : leaves_so_far taken s

  -- all were taken
  record Done (s : State) : Type 0 where
    draining : IsDraining k c.arithmetic size sums [] s
    leaves : leaves_so_far sums s

  ended : (s : State) (taken : List Entry) → taken ++ [] ≡ sums → IsDraining k c.arithmetic size taken [] s → leaves_so_far taken s
      → Done s
  ended s taken all draining leaves =
      let is : taken ≡ sums = sym (append-nil taken) ∙ all in
      record {
        draining = subst (λ es. IsDraining k c.arithmetic size es [] s) is draining;
        leaves = subst (λ es. leaves_so_far es s) is leaves;
      }

  -- a row waits
  module _ (left : ℕ) (s : State) (taken : List Entry) (row : Entry) (waiting : List Entry) (all : taken ++ row ∷ waiting ≡ sums)
      (bound : length (row ∷ waiting) ≤ suc left) (place : s.vars at ≡ Some (length taken))
      (draining : IsDraining k c.arithmetic size taken (row ∷ waiting) s) (leaves : leaves_so_far taken s) where
    small : length taken + 1 < 2 ^ 64
    small =
        let l = length-append taken (row ∷ waiting) in
        let f = draining.few in
        let p = workspace_pairs_are_small in
        omega (arith, l, f, p)

    -- past the take
    again : (t : State) → Leaves NoVariable (IsOther k) (at + 1) no_turns (one_turn s Drain) t
        → IsDraining k c.arithmetic size (taken ++ row ∷ []) waiting t → Inv left (set_var t at (length taken + 1))
    again t l now = record {
      taken = taken ++ row ∷ [];
      waiting = waiting;
      all = append_assoc taken (row ∷ []) waiting ∙ all;
      bound = omega (arith, bound);
      place = this_var t at (length taken + 1) ∙ ap Some (sym (one_more taken row));
      draining = draining_stays k c.arithmetic t (set_var t at (length taken + 1)) (λ b of. refl) refl size (taken ++ row ∷ []) waiting
          now;
      leaves = record {
        below = λ y less other. other_var t at y (length taken + 1) (λ e. omega (arith, less, e))
            ∙ l.below y (omega (arith, less)) (λ none. none) ∙ leaves.below y less other;
        arrays = λ b kept. l.arrays b kept ∙ leaves.arrays b kept;
        turns = λ j.
            let taking = l.turns j in
            let first = one_more_turn s0 s (length taken) j (leaves.turns j) in
            let same = ap (λ n. turns_of Drain n j) (one_more taken row) in
            omega (arith, taking, first, same);
      };
    }

    does_turn : Does c (join_code at take) (one_turn s Drain) (Inv left) Never
    does_turn =
        does_append c take (Set at (Bin Add (Var at) (Num 1)) ∷ []) (one_turn s Drain) _ (Inv left) Never
        (takes c laws size taken row waiting (one_turn s Drain)
        (draining_stays k c.arithmetic s (one_turn s Drain) (λ b of. refl) refl size taken (row ∷ waiting) draining) place)
        (λ t q. does_set c at (Bin Add (Var at) (Num 1)) [] t (length taken + 1) (Inv left) Never
        (sum_is (Var at) (Num 1) (length taken) 1 t (q.0.below at (omega arith) (λ none. none) ∙ place) refl small)
        (does_nothing c (set_var t at (length taken + 1)) (Inv left) Never (again t q.0 q.1)))

  turn : (left : ℕ) (s : State) → Inv (suc left) s → Turn c Drain test (join_code at take) s (Inv left) Done Never
  turn left s i = by i.taken i.waiting i.all i.bound i.place i.draining i.leaves
    where
      by : (taken waiting : List Entry) → taken ++ waiting ≡ sums → length waiting ≤ suc left → s.vars at ≡ Some (length taken)
          → IsDraining k c.arithmetic size taken waiting s → leaves_so_far taken s
          → Turn c Drain test (join_code at take) s (Inv left) Done Never
      by taken [] all bound place draining leaves =
          Ends (tells.none c.arithmetic size taken s draining place) (ended s taken all draining leaves)
      by taken (row ∷ waiting) all bound place draining leaves =
          Goes 0 (tells.some c.arithmetic size taken row waiting s draining place)
          (does_turn left s taken row waiting all bound place draining leaves)

  at_end : (left : ℕ) (s : State) → Inv left s → value test s ≡ Some 0 → Done s
  at_end left s i z = by i.taken i.waiting i.all i.place i.draining i.leaves
    where
      by : (taken waiting : List Entry) → taken ++ waiting ≡ sums → s.vars at ≡ Some (length taken)
          → IsDraining k c.arithmetic size taken waiting s → leaves_so_far taken s → Done s
      by taken [] all place draining leaves = ended s taken all draining leaves
      by taken (row ∷ waiting) all place draining leaves =
          absurd (zero_one (value test s) z (tells.some c.arithmetic size taken row waiting s draining place))

  none_more : (s : State) → Inv 0 s → value test s ≡ Some 0
  none_more s i = by i.taken i.waiting i.bound i.place i.draining
    where
      by : (taken waiting : List Entry) → length waiting ≤ 0 → s.vars at ≡ Some (length taken)
          → IsDraining k c.arithmetic size taken waiting s → value test s ≡ Some 0
      by taken [] bound place draining = tells.none c.arithmetic size taken s draining place
      by taken (row ∷ waiting) bound place draining = absurd (omega (arith, bound))

  -- once the list is sorted
  first_of_all : (t : State) → Leaves NoVariable (IsOther k) at no_turns s0 t → IsDraining k c.arithmetic size [] sums t
      → Inv (length sums) (set_var t at 0)
  first_of_all t l draining = record {
    taken = [];
    waiting = sums;
    all = refl;
    bound = omega arith;
    place = this_var t at 0;
    draining = draining_stays k c.arithmetic t (set_var t at 0) (λ b of. refl) refl size [] sums draining;
    leaves = record {
      below = λ y less other. other_var t at y 0 (λ e. omega (arith, less, e)) ∙ l.below y less other;
      arrays = λ b kept. l.arrays b kept;
      turns = λ j. let made = l.turns j in omega (arith, made);
    };
  }

  listed : (t : State) → Done t → LeavesListed k at sums s0 t
  listed t d = record { holds = (taken_all k c.arithmetic size sums t d.draining).listed; leaves = d.leaves }

  joins : (t : State) → Leaves NoVariable (IsOther k) at no_turns s0 t → IsDraining k c.arithmetic size [] sums t
      → Does c (Set at (Num 0) ∷ While Drain test (join_code at take) ∷ []) t (LeavesListed k at sums s0) Never
  joins t l draining =
      does_set c at (Num 0) _ t 0 _ Never refl
      (does_while c Drain test (join_code at take) [] Inv Done _ Never none_more at_end turn (length sums) (set_var t at 0)
      (first_of_all t l draining) (λ u d. does_nothing c u _ Never (listed u d)))

pub sums_touched : (k : TouchedSink) (at : ℕ) (test : KExpr) (take turn code : List KStmt) → TakesNext k at (at + 1) take
    → TellsWaiting k at test → turn ≡ join_code at take → code ≡ sum_code k.list at test turn → SumsTouched k at code
sums_touched k at test take body code takes tells turn_is code_is =
    subst (SumsTouched k at) (sym (code_is ∙ ap (sum_code k.list at test) turn_is))
    (λ c laws there size rows s holds.
    does_then c (SortSum k.list) (Set at (Num 0) ∷ While Drain test (join_code at take) ∷ []) s _ _ Never
    (sorting_touched k c laws there size rows s holds at)
    (λ t q. joins k at test take takes tells c laws size (sums_of c.arithmetic rows) s t q.0 q.1))
