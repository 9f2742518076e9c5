-- Runs of lists of statements and of loops, piece by piece, where at most n turns are told of.
use Rattle.std.specs.Prelude.{◌≡◌, ℕ, zero, suc, ◌+◌, ◌≤◌, ◌<◌, Bool, true, false, nat_le, if◌then◌else◌, List, ◌∷◌}
use Rattle.std.specs.Prelude.{Option, None, Some, refl}
use Rattle.std.proofs.Common.{◌∙◌, sym, ap, arith}
use Rattle.std.proofs.lemmas.Bool.Decides.{nat_tests}
use Rattle.kernel_code.specs.declared.syntax.LoopKind.{LoopKind}
use Rattle.kernel_code.specs.declared.syntax.KExpr.{KExpr}
use Rattle.kernel_code.specs.declared.syntax.KStmt.{KStmt, If}
use Rattle.kernel_code.specs.Meaning.{Setting, State, Outcome, Ended, Stuck, Over, More, value, one_turn, then_run, choice, run, run_list}
use Rattle.kernel_code.specs.Meaning.{run_turns, behind, statements_in, statements_in_list}
use Rattle.kernel_code.proofs.Behind.{then_same, within_behind}
use Rattle.kernel_code.proofs.Equations.{run_if}
use Rattle.kernel_code.specs.Kernels.{all_turns, within}
use Rattle.kernel_code.specs.Turns.{AtLeast}
use Rattle.kernel_code.proofs.TurnsLemmas.{at_least_turns, at_least_list, at_least_rest, one_turn_more, within_then}
use Rattle.kernel_code.proofs.TurnsLemmas.{within_beyond, within_ended}
use Rattle.kernel_code.proofs.TurnsLemmas.{within_stuck, at_least_after_turn}

-- a run that has ended was within the bound
within_test : (b : Bool) (n m : ℕ) (s s' : State) → nat_le (all_turns s'.turns) n ≡ b → Ended s ≡ (if b then Ended s' else More)
    → all_turns s.turns ≤ n
within_test true n m s s' t h = below (all_turns s.turns) (all_turns s'.turns) (ap all_turns (turns_same s s' h)) t
  where
    turns_of : Outcome → LoopKind → ℕ
    turns_of (Ended s) = s.turns
    turns_of (Stuck t statement) = t
    turns_of (Over t a count) = t
    turns_of More = λ k. 0

    turns_same : (s s' : State) → Ended s ≡ Ended s' → s.turns ≡ s'.turns
    turns_same s s' h = ap turns_of h

    below : (p q : ℕ) → p ≡ q → nat_le q n ≡ true → p ≤ n
    below p q e t = grind (arith, nat_tests)
within_test false n m s s' t h = cc

apart : (b : Bool) (n : ℕ) (s : State) (o : Outcome) → (Ended s ≡ o → ⊥) → Ended s ≡ (if b then o else More) → all_turns s.turns ≤ n
apart true n s o g h = absurd (g h)
apart false n s o g h = cc

pub ended_within : (n : ℕ) (s : State) (o : Outcome) → Ended s ≡ within n o → all_turns s.turns ≤ n
ended_within n s (Ended s') h = within_test (nat_le (all_turns s'.turns) n) n n s s' refl h
ended_within n s (Stuck t statement) h = apart (nat_le (all_turns t) n) n s (Stuck t statement) (λ e. cc) h
ended_within n s (Over t a count) h = apart (nat_le (all_turns t) n) n s (Over t a count) (λ e. cc) h
ended_within n s More h = cc

-- a statement of a list, and the rest
pub first_then : (c : Setting) (n : ℕ) (s : KStmt) (rest : List KStmt) (st : State) (o : Outcome) → o ≡ within n (run c n s st)
    → within n (run_list c n (s ∷ rest) st) ≡ then_run o (λ st. behind (statements_in s) (within n (run_list c n rest st)))
first_then c n s rest st o h =
    within_then n (run c n s st) (λ st. behind (statements_in s) (run_list c n rest st)) (at_least_rest c n s rest (at_least_list c n rest))
    ∙ then_same (within n (run c n s st)) (λ st. within n (behind (statements_in s) (run_list c n rest st)))
    (λ st. behind (statements_in s) (within n (run_list c n rest st)))
    (λ st. within_behind n (statements_in s) (run_list c n rest st))
    ∙ ap (λ o. then_run o (λ st. behind (statements_in s) (within n (run_list c n rest st)))) (sym h)

pub turns_end : (j : ℕ) (k : LoopKind) (test : State → Option ℕ) (body : State → Outcome) (s : State) → test s ≡ Some 0
    → run_turns j k test body s ≡ Ended s
turns_end zero k test body s h = ap (λ v. choice s v More (Ended s)) h
turns_end (suc j) k test body s h = ap (λ v. choice s v (then_run (body (one_turn s k)) (run_turns j k test body)) (Ended s)) h

chosen_first : (s : State) (v : ℕ) (first second : Outcome) → 0 < v → choice s (Some v) first second ≡ first
chosen_first s zero first second h = absurd (omega arith)
chosen_first s (suc v) first second h = refl

pub turns_go : (j : ℕ) (k : LoopKind) (test : State → Option ℕ) (body : State → Outcome) (s : State) (v : ℕ) → test s ≡ Some v → 0 < v
    → run_turns (suc j) k test body s ≡ then_run (body (one_turn s k)) (run_turns j k test body)
turns_go j k test body s v h p = ap (λ v. choice s v (then_run (body (one_turn s k)) (run_turns j k test body)) (Ended s)) h
    ∙ chosen_first s v (then_run (body (one_turn s k)) (run_turns j k test body)) (Ended s) p

-- a loop ends
pub loop_ended : (n j : ℕ) (k : LoopKind) (test : State → Option ℕ) (body : State → Outcome) (s : State) → test s ≡ Some 0
    → all_turns s.turns ≤ n → Ended s ≡ within n (run_turns j k test body s)
loop_ended n j k test body s h l = sym (ap (within n) (turns_end j k test body s h) ∙ within_ended n s l)

turns_stuck : (j : ℕ) (k : LoopKind) (test : State → Option ℕ) (body : State → Outcome) (s : State) → test s ≡ None
    → run_turns j k test body s ≡ Stuck s.turns 1
turns_stuck zero k test body s h = ap (λ v. choice s v More (Ended s)) h
turns_stuck (suc j) k test body s h = ap (λ v. choice s v (then_run (body (one_turn s k)) (run_turns j k test body)) (Ended s)) h

-- a loop whose test has no value
pub loop_stuck : (n j : ℕ) (k : LoopKind) (test : State → Option ℕ) (body : State → Outcome) (s : State) → test s ≡ None
    → all_turns s.turns ≤ n → Stuck s.turns 1 ≡ within n (run_turns j k test body s)
loop_stuck n j k test body s h l = sym (ap (within n) (turns_stuck j k test body s h) ∙ within_stuck n s.turns 1 l)

-- a loop would make a turn too many
pub loop_more : (n j : ℕ) (k : LoopKind) (test : State → Option ℕ) (body : State → Outcome) (s : State) (v : ℕ)
    → ((s : State) → AtLeast (all_turns s.turns) (body s)) → test s ≡ Some v → 0 < v → n ≤ all_turns s.turns → 0 < j
    → More ≡ within n (run_turns j k test body s)
loop_more n zero k test body s v g h p l j = absurd (omega arith)
loop_more n (suc j) k test body s v g h p l q =
    sym (ap (within n) (turns_go j k test body s v h p)
    ∙ within_beyond n (all_turns (one_turn s k).turns) (then_run (body (one_turn s k)) (run_turns j k test body))
    (omega (arith, one_turn_more s k))
    (at_least_after_turn j k test body g s))

-- a turn of a loop, and the rest
pub turn_then : (n j : ℕ) (k : LoopKind) (test : State → Option ℕ) (body : State → Outcome) (s : State) (v : ℕ) (o : Outcome)
    → ((s : State) → AtLeast (all_turns s.turns) (body s)) → test s ≡ Some v → 0 < v → o ≡ within n (body (one_turn s k))
    → within n (run_turns (suc j) k test body s) ≡ then_run o (λ s. within n (run_turns j k test body s))
turn_then n j k test body s v o g h p e =
    ap (within n) (turns_go j k test body s v h p)
    ∙ within_then n (body (one_turn s k)) (run_turns j k test body) (at_least_turns j k test body g)
    ∙ ap (λ o. then_run o (λ s. within n (run_turns j k test body s))) (sym e)

pub if_no : (c : Setting) (n : ℕ) (e : KExpr) (first second : List KStmt) (s : State) → value e s ≡ Some 0
    → behind (1 + statements_in_list first) (run_list c n second s) ≡ run c n (If e first second) s
if_no c n e first second s h = sym (run_if c n e first second s
    ∙ ap (λ v. choice s v (behind 1 (run_list c n first s)) (behind (1 + statements_in_list first) (run_list c n second s))) h)

pub if_yes : (c : Setting) (n : ℕ) (e : KExpr) (first second : List KStmt) (s : State) (v : ℕ) → value e s ≡ Some v → 0 < v
    → behind 1 (run_list c n first s) ≡ run c n (If e first second) s
if_yes c n e first second s v h p =
    let no = behind (1 + statements_in_list first) (run_list c n second s) in
    sym (run_if c n e first second s ∙ ap (λ v. choice s v (behind 1 (run_list c n first s)) no) h
    ∙ chosen_first s v (behind 1 (run_list c n first s)) no p)
