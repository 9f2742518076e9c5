-- Lemmas about whole kernels.
use Rattle.std.specs.Prelude.{◌≡◌, ℕ, Bool, true, false, nat_le, if◌then◌else◌, List, None, refl}
use Rattle.std.proofs.Common.{◌∙◌, ap}
use Rattle.kernel_code.specs.declared.syntax.Arr.{Arr}
use Rattle.kernel_code.specs.declared.syntax.Kernel.{Kernel}
use Rattle.kernel_code.specs.declared.syntax.KStmt.{KStmt}
use Rattle.kernel_code.specs.Kernels.{setting_of, start_state, told, within, all_turns}
use Rattle.kernel_code.specs.Meaning.{Setting, State, Outcome, Ended, Stuck, Over, More, run_list}
use Rattle.kernel_code.specs.More.{IsGood}
use Rattle.simplifier.specs.Refines.{AnyState, RefinesKernel}
use Rattle.simplifier.proofs.Refining.{good_run}
use Rattle.simplifier.specs.Same.{unnumbered}
use Rattle.dead_code.specs.Follows.{Vars, Tie, with_vars, EndsAlike, Follows}

ended_only : (o : Outcome) (s : State) → unnumbered o ≡ Ended s → o ≡ Ended s
ended_only (Ended t) s h = h
ended_only (Stuck t statement) s h = cc
ended_only (Over t a count) s h = cc
ended_only More s h = cc

refused_only : (o : Outcome) (t : _) (a : Arr) (count : ℕ) → unnumbered o ≡ Over t a count → o ≡ Over t a count
refused_only (Ended s) t a count h = cc
refused_only (Stuck t' statement) t a count h = cc
refused_only (Over t' a' count') t a count h = h
refused_only More t a count h = cc

more_only : (o : Outcome) → unnumbered o ≡ More → o ≡ More
more_only (Ended s) h = cc
more_only (Stuck t statement) h = cc
more_only (Over t a count) h = cc
more_only More h = refl

told_ended : (order : ℕ) (b : Bool) (s : State) (w : Vars)
    → told order (if b then Ended (with_vars s w) else More) ≡ told order (if b then Ended s else More)
told_ended order true s w = refl
told_ended order false s w = refl

told_alike : (A : Tie) (order n : ℕ) (o p : Outcome) → IsGood o → EndsAlike A (unnumbered o) (unnumbered p)
    → told order (within n p) ≡ told order (within n o)
told_alike A order n (Ended s) p g h =
    ap (λ q. told order (within n q)) (ended_only p (with_vars s h.vars) h.is) ∙ told_ended order (nat_le (all_turns s.turns) n) s h.vars
told_alike A order n (Stuck t statement) p g h = absurd g
told_alike A order n (Over t a count) p g h = ap (λ q. told order (within n q)) (refused_only p t a count h)
told_alike A order n More p g h = ap (λ q. told order (within n q)) (more_only p h)

-- a kernel whose code follows another's, where variables that have no value are tied
pub kernel_follows : (A B : Tie) (k : Kernel) (body : List KStmt) → A (λ x. None) (λ x. None) → Follows A k.body body B
    → RefinesKernel AnyState (record k { body = body }) k
kernel_follows A B k body starts f = record {
  semiring = refl;
  workspaces = refl;
  lists = refl;
  runs = λ cuts arithmetic order given words never n.
      let c : Setting = setting_of cuts arithmetic k in
      let s = start_state k given in
      told_alike B order n (run_list c n k.body s) (run_list c n body s) (good_run cuts arithmetic order k given never n)
      (f.at c n s s.vars starts);
}
