-- A statement that makes no turns is told of, whatever it does: the turns that were made are few enough.
use Rattle.std.specs.Prelude.{◌≡◌, ℕ, ◌+◌, ◌≤◌, refl}
use Rattle.std.proofs.Common.{◌∙◌, sym, ap, subst, arith}
use Rattle.kernel_interpreter.specs.declared.machine.Machine.{Machine}
use Rattle.kernel_interpreter.specs.declared.ending.Step.{Step}
use Rattle.kernel_interpreter.specs.declared.turns.KeptTurns.{KeptTurns}
use Rattle.kernel_interpreter.specs.declared.ending.Step.TheVariants as step
use Rattle.kernel_code.specs.declared.syntax.KStmt.{KStmt}
use Rattle.kernel_code.specs.Meaning.{Setting, Outcome, run}
use Rattle.kernel_code.specs.Kernels.{all_turns, within}
use Rattle.kernel_code.proofs.TurnsLemmas.{within_ended, within_stuck, within_over}
use Rattle.kernel_interpreter.specs.Store.{state_of, outcome_at, count_of, made}

told_at : (n : ℕ) (e : Step) (m : Machine) → made m ≤ n → within n (outcome_at e m) ≡ outcome_at e m
told_at n step.Ended m l = within_ended n (state_of m) l
told_at n step.Stuck m l = within_stuck n (state_of m).turns 1 l
told_at n step.StuckInside m l = within_stuck n (state_of m).turns m.stuck_inside l
told_at n step.Over m l = within_over n (state_of m).turns m.refused.array m.refused.count l
told_at n step.More m l = refl
told_at n step.Memory m l = refl

-- of a statement whose outcome is this one
pub told : (n : ℕ) (m m' : Machine) (e : Step) (o : Outcome) (c : Setting) (k s : KStmt) → made m + m.turns.left ≡ n
    → m'.turns ≡ m.turns → s ≡ k
    → outcome_at e m' ≡ o → o ≡ run c n k (state_of m)
    → outcome_at e m' ≡ within n (run c n s (state_of m))
told n m m' e o c k s few same is h meant =
    let few_now : made m ≤ n = omega (arith, few) in
    let within_now : made m' ≤ n = subst (λ (t : KeptTurns). all_turns (count_of t.counts) ≤ n) (sym same) few_now in
    sym (told_at n e m' within_now) ∙ ap (within n) (h ∙ meant ∙ ap (λ j. run c n j (state_of m)) (sym is))
