-- What code does but for the number of a stuck statement, piece by piece.
use Rattle.std.specs.Prelude.{◌≡◌, ℕ, zero, suc, ◌+◌, ◌<◌, Bool, true, false, nat_le, if◌then◌else◌, List, [], ◌++◌}
use Rattle.std.specs.Prelude.{Option, Some, None, refl}
use Rattle.std.proofs.Common.{◌∙◌, ap, sym}
use Rattle.numbers.specs.Arithmetic.{Arithmetic}
use Rattle.kernel_code.specs.declared.syntax.Kernel.{Kernel}
use Rattle.kernel_code.specs.declared.syntax.KernelSemiring.TheVariants.{Ring}
use Rattle.kernel_code.specs.declared.syntax.LoopKind.{LoopKind}
use Rattle.kernel_code.specs.declared.syntax.KExpr.{KExpr}
use Rattle.kernel_code.specs.declared.syntax.KStmt.{KStmt, If, While}
use Rattle.kernel_code.specs.Meaning.{Setting, State, Outcome, Ended, Stuck, Over, More, value, one_turn, then_run}
use Rattle.kernel_code.specs.Meaning.{behind, choice, run_turns, run}
use Rattle.kernel_code.specs.Meaning.{run_list, statements_in_list}
use Rattle.kernel_code.specs.Kernels.{KernelOutcome, Finished, GotStuck, TooLong, NotFinished, all_turns, within, told}
use Rattle.kernel_code.specs.Kernels.{setting_of, start_state}
use Rattle.kernel_code.proofs.Behind.{then_same}
use Rattle.kernel_code.proofs.Does.{run_append}
use Rattle.kernel_code.proofs.Equations.{run_if, run_while}
use Rattle.kernel_code.proofs.RunLemmas.{if_no, if_yes}
use Rattle.simplifier.specs.Same.{unnumbered, unnumbered_end, SameRuns, SameKernel}

plain_behind : (n : ℕ) (o : Outcome) → unnumbered (behind n o) ≡ unnumbered o
plain_behind n (Ended s) = refl
plain_behind n (Stuck t statement) = refl
plain_behind n (Over t a count) = refl
plain_behind n More = refl

plain_then : (o : Outcome) (next : State → Outcome) → unnumbered (then_run o next) ≡ then_run (unnumbered o) (λ s. unnumbered (next s))
plain_then (Ended s) next = refl
plain_then (Stuck t statement) next = refl
plain_then (Over t a count) next = refl
plain_then More next = refl

plain_choice : (s : State) (v : Option ℕ) (first second : Outcome)
    → unnumbered (choice s v first second) ≡ choice s v (unnumbered first) (unnumbered second)
plain_choice s None first second = refl
plain_choice s (Some zero) first second = refl
plain_choice s (Some (suc v)) first second = refl

plain_turns : (n : ℕ) (k : LoopKind) (test : State → Option ℕ) (body : State → Outcome) (s : State)
    → unnumbered (run_turns n k test (λ s'. behind 1 (body s')) s) ≡ run_turns n k test (λ s'. unnumbered (body s')) s
plain_turns zero k test body s = plain_choice s (test s) More (Ended s)
plain_turns (suc n) k test body s =
    let turns = run_turns n k test (λ s'. behind 1 (body s')) in
    plain_choice s (test s) (then_run (behind 1 (body (one_turn s k))) turns) (Ended s)
    ∙ ap (λ o. choice s (test s) o (Ended s)) (plain_then (behind 1 (body (one_turn s k))) turns
    ∙ ap (λ o. then_run o (λ s'. unnumbered (turns s'))) (plain_behind 1 (body (one_turn s k)))
    ∙ then_same (unnumbered (body (one_turn s k))) (λ s'. unnumbered (turns s')) (run_turns n k test (λ s'. unnumbered (body s')))
    (plain_turns n k test body))

pub plain_append : (c : Setting) (n : ℕ) (a b : List KStmt) (s : State)
    → unnumbered (run_list c n (a ++ b) s) ≡ then_run (unnumbered (run_list c n a s)) (λ s'. unnumbered (run_list c n b s'))
plain_append c n a b s =
    let next : State → Outcome = λ s'. behind (statements_in_list a) (run_list c n b s') in
    ap unnumbered (run_append c n a b s) ∙ plain_then (run_list c n a s) next
    ∙ then_same (unnumbered (run_list c n a s)) (λ s'. unnumbered (next s')) (λ s'. unnumbered (run_list c n b s'))
    (λ s'. plain_behind (statements_in_list a) (run_list c n b s'))

pub plain_if : (c : Setting) (n : ℕ) (e : KExpr) (first second : List KStmt) (s : State)
    → unnumbered (run c n (If e first second) s)
    ≡ choice s (value e s) (unnumbered (run_list c n first s)) (unnumbered (run_list c n second s))
plain_if c n e first second s =
    let k = 1 + statements_in_list first in
    ap unnumbered (run_if c n e first second s)
    ∙ plain_choice s (value e s) (behind 1 (run_list c n first s)) (behind k (run_list c n second s))
    ∙ ap (λ o. choice s (value e s) o (unnumbered (behind k (run_list c n second s)))) (plain_behind 1 (run_list c n first s))
    ∙ ap (choice s (value e s) (unnumbered (run_list c n first s))) (plain_behind k (run_list c n second s))

pub plain_while : (c : Setting) (n : ℕ) (k : LoopKind) (e : KExpr) (body : List KStmt) (s : State)
    → unnumbered (run c n (While k e body) s) ≡ run_turns n k (value e) (λ s'. unnumbered (run_list c n body s')) s
plain_while c n k e body s = ap unnumbered (run_while c n k e body s) ∙ plain_turns n k (value e) (run_list c n body) s

pub plain_no : (c : Setting) (n : ℕ) (e : KExpr) (first second : List KStmt) (s : State) → value e s ≡ Some 0
    → unnumbered (run_list c n second s) ≡ unnumbered (run c n (If e first second) s)
plain_no c n e first second s h = sym (plain_behind (1 + statements_in_list first) (run_list c n second s))
    ∙ ap unnumbered (if_no c n e first second s h)

pub plain_yes : (c : Setting) (n : ℕ) (e : KExpr) (first second : List KStmt) (s : State) (v : ℕ) → value e s ≡ Some v → 0 < v
    → unnumbered (run_list c n first s) ≡ unnumbered (run c n (If e first second) s)
plain_yes c n e first second s v h l = sym (plain_behind 1 (run_list c n first s)) ∙ ap unnumbered (if_yes c n e first second s v h l)

told_either : (order : ℕ) (b : Bool) (o p : Outcome) → unnumbered_end (told order o) ≡ told order p
    → unnumbered_end (told order (if b then o else More)) ≡ told order (if b then p else More)
told_either order true o p h = h
told_either order false o p h = refl

told_plain : (order n : ℕ) (o : Outcome) → unnumbered_end (told order (within n o)) ≡ told order (within n (unnumbered o))
told_plain order n (Ended s) = told_either order (nat_le (all_turns s.turns) n) (Ended s) (Ended s) refl
told_plain order n (Stuck t statement) = told_either order (nat_le (all_turns t) n) (Stuck t statement) (Stuck t 1) refl
told_plain order n (Over t a count) = told_either order (nat_le (all_turns t) n) (Over t a count) (Over t a count) refl
told_plain order n More = refl

-- kernels whose code does the same are the same
pub same_kernel : (a : Arithmetic) (j k : Kernel) → j.semiring ≡ k.semiring → j.workspaces ≡ k.workspaces → j.lists ≡ k.lists
    → SameRuns a j.body k.body → SameKernel a j k
same_kernel a j k semiring ws ls h = record {
  semiring = semiring;
  workspaces = ws;
  lists = ls;
  runs = λ cuts order given n.
      let run_on : List ℕ → ℕ → List KStmt → Outcome = λ w l code.
      run_list (record { arithmetic = a; workspaces = w; cuts_results = cuts }) n code
      (start_state (record { semiring = Ring; workspaces = w; lists = l; body = [] }) given) in
      let tell : Outcome → KernelOutcome = λ o. told order (within n (unnumbered o)) in
      told_plain order n (run_on j.workspaces j.lists j.body)
      ∙ ap (λ o. told order (within n o)) (h.from (setting_of cuts a j) refl n (start_state j given))
      ∙ ap (λ w. tell (run_on w j.lists k.body)) ws
      ∙ ap (λ l. tell (run_on k.workspaces l k.body)) ls
      ∙ sym (told_plain order n (run_on k.workspaces k.lists k.body));
}

-- a run that isn't stuck ends as that of the simpler kernel does
pub end_is : (o p : KernelOutcome) → unnumbered_end o ≡ unnumbered_end p → ((statement : ℕ) → p ≡ GotStuck statement → ⊥) → o ≡ p
end_is o (Finished arrays turns) h free = from o h
  where
    from : (o : KernelOutcome) → unnumbered_end o ≡ Finished arrays turns → o ≡ Finished arrays turns
    from (Finished arrays' turns') h = h
    from (GotStuck statement) h = cc
    from (TooLong place count) h = cc
    from NotFinished h = cc
end_is o (GotStuck statement) h free = absurd (free statement refl)
end_is o (TooLong place count) h free = from o h
  where
    from : (o : KernelOutcome) → unnumbered_end o ≡ TooLong place count → o ≡ TooLong place count
    from (Finished arrays' turns') h = cc
    from (GotStuck statement) h = cc
    from (TooLong place' count') h = h
    from NotFinished h = cc
end_is o NotFinished h free = from o h
  where
    from : (o : KernelOutcome) → unnumbered_end o ≡ NotFinished → o ≡ NotFinished
    from (Finished arrays' turns') h = cc
    from (GotStuck statement) h = cc
    from (TooLong place count) h = cc
    from NotFinished h = h
