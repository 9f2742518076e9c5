-- Lemmas about choices: one does the same when its bodies take in what stands behind it.
use Rattle.std.specs.Prelude.{◌≡◌, ℕ, zero, suc, List, [], ◌∷◌, ◌++◌, Option, Some, None, refl}
use Rattle.std.proofs.Common.{◌∙◌, ap, sym, subst}
use Rattle.kernel_code.specs.declared.syntax.KExpr.{KExpr}
use Rattle.kernel_code.specs.declared.syntax.LoopKind.{LoopKind}
use Rattle.kernel_code.specs.declared.syntax.KStmt.{KStmt, If, While}
use Rattle.kernel_code.specs.Meaning.{Setting, State, Outcome, Ended, Stuck, Over, More, value, then_run, choice, behind}
use Rattle.kernel_code.specs.Meaning.{statements_in, run}
use Rattle.simplifier.specs.Refines.{plain}
use Rattle.simplifier.specs.Same.{unnumbered}
use Rattle.simplifier.proofs.CodeLemmas.{same_if, same_while, step_same}
use Rattle.simplifier.proofs.ExprLemmas.{same_value}
use Rattle.simplifier.proofs.Unnumbered.{plain_append, plain_if}
use Rattle.jump_threading.specs.Alike.{DoesAlike}
use Rattle.jump_threading.proofs.CodeLemmas.{alike_before, alike_behind, alike_now, alike_pushed, alike_then}

pub alone : (c : Setting) (n : ℕ) (k : KStmt) (s : State) → plain c n (k ∷ []) s ≡ unnumbered (run c n k s)
alone c n k s = last (run c n k s)
  where
    last : (o : Outcome) → unnumbered (then_run o (λ s'. behind (statements_in k) (Ended s'))) ≡ unnumbered o
    last (Ended s') = refl
    last (Stuck t statement) = refl
    last (Over t a count) = refl
    last More = refl

choice_then : (s : State) (v : Option ℕ) (p q : Outcome) (f : State → Outcome)
    → choice s v (then_run p f) (then_run q f) ≡ then_run (choice s v p q) f
choice_then s None p q f = refl
choice_then s (Some zero) p q f = refl
choice_then s (Some (suc v)) p q f = refl

pub plain_choice : (c : Setting) (n : ℕ) (e : KExpr) (a b : List KStmt) (s : State)
    → plain c n (If e a b ∷ []) s ≡ choice s (value e s) (plain c n a s) (plain c n b s)
plain_choice c n e a b s = alone c n (If e a b) s ∙ plain_if c n e a b s

pub takes_in : (e : KExpr) (a b more : List KStmt) → DoesAlike (If e (a ++ more) (b ++ more) ∷ []) (If e a b ∷ more)
takes_in e a b more = record {
  over = λ m. record {
    from = λ c q n s.
        let next = plain c n more in
        let first = plain c n a s in
        let second = plain c n b s in
        plain_choice c n e (a ++ more) (b ++ more) s
        ∙ ap (λ o. choice s (value e s) o (plain c n (b ++ more) s)) (plain_append c n a more s)
        ∙ ap (λ o. choice s (value e s) (then_run first next) o) (plain_append c n b more s)
        ∙ choice_then s (value e s) first second next
        ∙ ap (λ o. then_run o next) (sym (plain_choice c n e a b s))
        ∙ sym (plain_append c n (If e a b ∷ []) more s);
  };
}

-- bodies that do the same
pub alike_choice : (e : KExpr) (one other first second : List KStmt) → DoesAlike one first → DoesAlike other second
    → DoesAlike (If e one other ∷ []) (If e first second ∷ [])
alike_choice e one other first second p q =
    alike_pushed [] (If e one other ∷ []) (If e one other) (If e first second) refl
    (λ m. same_if m e e one other first second (same_value e) (p.over m) (q.over m))

-- a choice that takes in what stands behind it, whose bodies have been passed
pub choice_taken : (out new more held one other there elsewhere first second : List KStmt) (k : KStmt) (e : KExpr) → k ≡ If e first second
    → there ≡ first → elsewhere ≡ second → held ≡ more → DoesAlike one there → DoesAlike other elsewhere
    → new ≡ out ++ If e (one ++ held) (other ++ held) ∷ [] → DoesAlike new (out ++ k ∷ more)
choice_taken out new more held one other there elsewhere first second k e is there_is elsewhere_is held_is p q new_is =
    let taken = If e (one ++ more) (other ++ more) ∷ [] in
    let passed = If e one other ∷ more in
    alike_now new (out ++ taken) (out ++ k ∷ more) (out ++ If e first second ∷ more)
    (new_is ∙ ap (λ x. out ++ If e (one ++ x) (other ++ x) ∷ []) held_is) (ap (λ x. out ++ x ∷ more) is)
    (alike_before out taken (If e first second ∷ more)
    (alike_then taken passed (If e first second ∷ more) (takes_in e one other more)
    (alike_behind (If e one other ∷ []) (If e first second ∷ []) more
    (alike_choice e one other first second (subst (DoesAlike one) there_is p) (subst (DoesAlike other) elsewhere_is q)))))

-- a loop whose body has been passed
pub loop_passed : (out new held passed body : List KStmt) (k : KStmt) (kind : LoopKind) (e copy : KExpr) → k ≡ While kind e body
    → held ≡ body → copy ≡ e → DoesAlike passed held → new ≡ out ++ While kind copy passed ∷ [] → DoesAlike new (out ++ k ∷ [])
loop_passed out new held passed body k kind e copy is held_is copy_is p new_is =
    let inside = subst (DoesAlike passed) held_is p in
    alike_now new (out ++ While kind e passed ∷ []) (out ++ k ∷ []) (out ++ While kind e body ∷ [])
    (new_is ∙ ap (λ x. out ++ While kind x passed ∷ []) copy_is) (ap (λ x. out ++ x ∷ []) is)
    (alike_pushed out (out ++ While kind e passed ∷ []) (While kind e passed) (While kind e body) refl
    (λ m. same_while m kind e e passed body (same_value e) (inside.over m)))

-- a statement that is copied
pub copied : (out new : List KStmt) (k copy : KStmt) → copy ≡ k → new ≡ out ++ copy ∷ [] → DoesAlike new (out ++ k ∷ [])
copied out new k copy is new_is =
    alike_pushed out new copy k new_is (λ m. step_same m copy k is)
