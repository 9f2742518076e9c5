-- Lemmas about whole kernels, of which one does what the other does wherever that isn't stuck.
use Rattle.std.specs.Prelude.{◌≡◌, ℕ, ◌+◌, ◌≤◌, Bool, if◌then◌else◌, List, Option, refl}
use Rattle.std.proofs.Common.{◌∙◌, ap, sym, subst, arith}
use Rattle.numbers.specs.Arithmetic.{Arithmetic}
use Rattle.lists.proofs.Tests.{test_within}
use Rattle.kernel_code.specs.declared.syntax.Arr.{Arr}
use Rattle.kernel_code.specs.declared.syntax.Kernel.{Kernel}
use Rattle.kernel_code.specs.declared.syntax.KStmt.{KStmt}
use Rattle.kernel_code.specs.Kernels.{GotStuck, setting_of, start_state, told, within, all_turns}
use Rattle.kernel_code.specs.Meaning.{Setting, State, Outcome, Ended, Stuck, Over, More, run_list}
use Rattle.kernel_code.specs.More.{IsGood, Settled}
use Rattle.kernel_code.proofs.More.{list_more}
use Rattle.simplifier.specs.Same.{unnumbered}
use Rattle.simplifier.specs.Refines.{IsNeverStuck, Refines, RefinesKernel}

-- a run that is stuck is told so within as many turns as it made
stuck_told : (order n : ℕ) (t : _) (statement : ℕ) → all_turns t ≤ n → told order (within n (Stuck t statement)) ≡ GotStuck statement
stuck_told order n t statement l = ap (λ b. told order (if b then Stuck t statement else More)) (test_within (all_turns t) n l)

-- a run of a kernel that is never stuck isn't
pub good_run : (cuts : Bool) (arithmetic : Arithmetic) (order : ℕ) (k : Kernel) (given : Arr → Option (List ℕ))
    → IsNeverStuck cuts arithmetic order k given → (n : ℕ) → IsGood (run_list (setting_of cuts arithmetic k) n k.body (start_state k given))
good_run cuts arithmetic order k given never n = from (run_list c n k.body (start_state k given)) refl
  where
    c : Setting
    c = setting_of cuts arithmetic k

    from : (o : Outcome) → run_list c n k.body (start_state k given) ≡ o → IsGood o
    from (Ended s) is = tt
    from (Over t a count) is = tt
    from More is = tt
    from (Stuck t statement) is =
        let m = n + all_turns t in
        let again : run_list c m k.body (start_state k given) ≡ Stuck t statement =
        list_more c n m k.body (start_state k given) (omega arith) (subst Settled (sym is) tt) ∙ is in
        never m statement (ap (λ o. told order (within m o)) again ∙ stuck_told order m t statement (omega arith))

-- outcomes that are one but for the number of a stuck statement are one where neither is stuck
same_good : (o p : Outcome) → IsGood p → unnumbered o ≡ unnumbered p → o ≡ p
same_good (Ended s) (Ended s') g h = h
same_good (Ended s) (Stuck t statement) g h = absurd g
same_good (Ended s) (Over t a count) g h = cc
same_good (Ended s) More g h = cc
same_good (Stuck t statement) (Ended s') g h = cc
same_good (Stuck t statement) (Stuck t' statement') g h = absurd g
same_good (Stuck t statement) (Over t' a count) g h = cc
same_good (Stuck t statement) More g h = cc
same_good (Over t a count) (Ended s') g h = cc
same_good (Over t a count) (Stuck t' statement) g h = absurd g
same_good (Over t a count) (Over t' a' count') g h = h
same_good (Over t a count) More g h = cc
same_good More (Ended s') g h = cc
same_good More (Stuck t statement) g h = absurd g
same_good More (Over t a count) g h = cc
same_good More More g h = refl

plainly_good : (o : Outcome) → IsGood o → IsGood (unnumbered o)
plainly_good (Ended s) h = h
plainly_good (Stuck t statement) h = h
plainly_good (Over t a count) h = h
plainly_good More h = h

pub kernel_refines : (starts : State → Type 0) (k : Kernel) (body : List KStmt) → Refines starts body k.body
    → RefinesKernel starts (record k { body = body }) k
kernel_refines starts k body r = record {
  semiring = refl;
  workspaces = refl;
  lists = refl;
  runs = λ cuts arithmetic order given words never n.
      let c : Setting = setting_of cuts arithmetic k in
      let good = good_run cuts arithmetic order k given never n in
      ap (λ o. told order (within n o))
      (same_good (run_list c n body (start_state k given)) (run_list c n k.body (start_state k given)) good
      (r.same c n (start_state k given) words (plainly_good (run_list c n k.body (start_state k given)) good)));
}
