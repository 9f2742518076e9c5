-- Lemmas about code that does what other code does wherever facts hold and that isn't stuck.
use Rattle.std.specs.Prelude.{◌≡◌, ℕ, zero, suc, ◌+◌, ◌<◌, List, [], ◌∷◌, ◌++◌, length, Option, Some, None, Result, Ok, Err, IfOk, refl}
use Rattle.std.specs.declared.alloc.AllocError.{AllocError}
use Rattle.std.proofs.Common.{◌∙◌, ap, sym, subst, take, get_or}
use Rattle.std.proofs.lemmas.List.{take_more}
use Rattle.kernel_code.specs.declared.syntax.Arr.{Arr}
use Rattle.kernel_code.specs.declared.syntax.LoopKind.{LoopKind}
use Rattle.kernel_code.specs.declared.syntax.ValueOp.{ValueOp}
use Rattle.kernel_code.specs.declared.syntax.KExpr.{KExpr}
use Rattle.kernel_code.specs.declared.syntax.KStmt.{KStmt, Set, Combine, Put, AddTo, Push, Extend, Cut, If, While}
use Rattle.kernel_code.specs.Meaning.{Setting, State, Outcome, Ended, Stuck, Over, More, value, apply_each, combined, one_turn, then_run}
use Rattle.kernel_code.specs.Meaning.{behind, statements_in, choice, run_turns, run, add_outcome, push_outcome, extend_outcome, cut_outcome}
use Rattle.kernel_code.specs.Meaning.{with_value, with_array, changed, set_var}
use Rattle.kernel_code.specs.More.{IsGood}
use Rattle.simplifier.specs.Refines.{Refines, plain}
use Rattle.simplifier.specs.Same.{unnumbered}
use Rattle.simplifier.proofs.Unnumbered.{plain_append, plain_if, plain_while}
use Rattle.store_facts.specs.declared.facts.StoreFact.{StoreFact}
use Rattle.store_facts.specs.Facts.{KeepsFacts, Becomes}
use Rattle.store_facts.proofs.FactLemmas.{each_settle}
use Rattle.store_facts.proofs.Keeping.{KeptAfter, code_keeps, turn_kept}

-- runs one behind another
pub good_first : (o : Outcome) (f : State → Outcome) → IsGood (then_run o f) → IsGood o
good_first (Ended s) f h = tt
good_first (Stuck t statement) f h = h
good_first (Over t a count) f h = tt
good_first More f h = tt

pub good_now : (o p : Outcome) → o ≡ p → IsGood o → IsGood p
good_now o p is h = subst IsGood is h

then_as : (F : List StoreFact) (o : Outcome) (f g : State → Outcome) → KeptAfter F o → IsGood (then_run o f)
    → ((s : State) → KeepsFacts F s → IsGood (f s) → g s ≡ f s) → then_run o g ≡ then_run o f
then_as F (Ended s) f g k h same = same s k h
then_as F (Stuck t statement) f g k h same = refl
then_as F (Over t a count) f g k h same = refl
then_as F More f g k h same = refl

pub refines_same : (F : List StoreFact) (a : List KStmt) → Refines (KeepsFacts F) a a
refines_same F a = record { same = λ c n s k g. refl }

pub refines_now : (F : List StoreFact) (a a' b b' : List KStmt) → a ≡ a' → b ≡ b' → Refines (KeepsFacts F) a' b'
    → Refines (KeepsFacts F) a b
refines_now F a a' b b' is same h =
    subst (λ x. Refines (KeepsFacts F) x b) (sym is) (subst (Refines (KeepsFacts F) a') (sym same) h)

pub refines_then : (F : List StoreFact) (a b d : List KStmt) → Refines (KeepsFacts F) a b → Refines (KeepsFacts F) b d
    → Refines (KeepsFacts F) a d
refines_then F a b d p q = record {
  same = λ c n s k g. p.same c n s k (good_now _ _ (sym (q.same c n s k g)) g) ∙ q.same c n s k g;
}

pub refines_append : (F : List StoreFact) (a b d e : List KStmt) → Refines (KeepsFacts F) d a → Refines (KeepsFacts F) e b
    → Refines (KeepsFacts F) (d ++ e) (a ++ b)
refines_append F a b d e p q = record {
  same = λ c n s k g.
      let first = plain c n a s in
      let good = good_now _ _ (plain_append c n a b s) g in
      plain_append c n d e s ∙ ap (λ o. then_run o (plain c n e)) (p.same c n s k (good_first first (plain c n b) good))
      ∙ then_as F first (plain c n b) (plain c n e) (code_keeps F c n a s k) good (λ s k g. q.same c n s k g)
      ∙ sym (plain_append c n a b s);
}

-- one more statement
pub refines_more : (F : List StoreFact) (code out new : List KStmt) (i : ℕ) (s : KStmt) → i < length code → s ≡ get_or code i s
    → Refines (KeepsFacts F) out (take i code) → Refines (KeepsFacts F) new (out ++ s ∷ [])
    → Refines (KeepsFacts F) new (take (i + 1) code)
refines_more F code out new i s l is p q =
    refines_then F new (out ++ s ∷ []) (take (i + 1) code) q
    (refines_now F (out ++ s ∷ []) (out ++ s ∷ []) (take (i + 1) code) (take i code ++ s ∷ []) refl
    (take_more code i s l ∙ ap (λ x. take i code ++ x ∷ []) (sym is))
    (refines_append F (take i code) (s ∷ []) out (s ∷ []) p (refines_same F (s ∷ []))))

pub refines_last : (F : List StoreFact) (out new : List KStmt) (k s : KStmt) → new ≡ out ++ k ∷ []
    → Refines (KeepsFacts F) (k ∷ []) (s ∷ []) → Refines (KeepsFacts F) new (out ++ s ∷ [])
refines_last F out new k s is h =
    refines_now F new (out ++ k ∷ []) (out ++ s ∷ []) (out ++ s ∷ []) is refl
    (refines_append F out (s ∷ []) out (k ∷ []) (refines_same F out) h)

-- a statement by itself
pub once : Setting → ℕ → KStmt → State → Outcome
once c n k s = unnumbered (run c n k s)

pub alone : (c : Setting) (n : ℕ) (k : KStmt) (s : State) → plain c n (k ∷ []) s ≡ unnumbered (run c n k s)
alone c n k s = last (run c n k s)
  where
    last : (o : Outcome) → unnumbered (then_run o (λ s'. behind (statements_in k) (Ended s'))) ≡ unnumbered o
    last (Ended s') = refl
    last (Stuck t statement) = refl
    last (Over t a count) = refl
    last More = refl

refines_step : (F : List StoreFact) (k j : KStmt)
    → ((c : Setting) (n : ℕ) (s : State) → KeepsFacts F s → IsGood (unnumbered (run c n k s))
    → unnumbered (run c n j s) ≡ unnumbered (run c n k s))
    → Refines (KeepsFacts F) (j ∷ []) (k ∷ [])
refines_step F k j h = record {
  same = λ c n s kept good. alone c n j s ∙ h c n s kept (good_now _ _ (alone c n k s) good) ∙ sym (alone c n k s);
}

good_numbered : (o : Outcome) → IsGood (unnumbered o) → IsGood o
good_numbered (Ended s) h = h
good_numbered (Stuck t statement) h = h
good_numbered (Over t a count) h = h
good_numbered More h = h

refines_alike : (F : List StoreFact) (k j : KStmt)
    → ((c : Setting) (n : ℕ) (s : State) → KeepsFacts F s → IsGood (run c n k s) → run c n j s ≡ run c n k s)
    → Refines (KeepsFacts F) (j ∷ []) (k ∷ [])
refines_alike F k j h =
    refines_step F k j (λ c n s kept good. ap unnumbered (h c n s kept (good_numbered (run c n k s) good)))

-- values
with_as : (s : State) (p q : Option ℕ) (f g : ℕ → Outcome) → ((v : ℕ) → p ≡ Some v → q ≡ Some v) → IsGood (with_value s p f)
    → ((v : ℕ) → IsGood (f v) → g v ≡ f v) → with_value s q g ≡ with_value s p f
with_as s None q f g h good same = absurd good
with_as s (Some v) q f g h good same = ap (λ x. with_value s x g) (h v refl) ∙ same v good

-- statements, as they are written now
from_step : (F : List StoreFact) (k s s' : KStmt) → s ≡ s' → Refines (KeepsFacts F) (k ∷ []) (s' ∷ [])
    → Refines (KeepsFacts F) (k ∷ []) (s ∷ [])
from_step F k s s' is h = subst (λ x. Refines (KeepsFacts F) (k ∷ []) (x ∷ [])) (sym is) h

pub itself : (F : List StoreFact) (k s : KStmt) → s ≡ k → Refines (KeepsFacts F) (k ∷ []) (s ∷ [])
itself F k s is = from_step F k s k is (refines_same F (k ∷ []))

pub refines_set : (F : List StoreFact) (k : KStmt) (x : ℕ) (e d : KExpr) → k ≡ Set x e → Becomes F e d
    → Refines (KeepsFacts F) (Set x d ∷ []) (k ∷ [])
refines_set F k x e d is b = from_step F (Set x d) k (Set x e) is (refines_alike F (Set x e) (Set x d) (λ c n s k good.
    with_as s (value e s) (value d s) (λ v. Ended (set_var s x v)) (λ v. Ended (set_var s x v)) (λ v h. b.at s v k h) good (λ v g. refl)))

pub refines_combine : (F : List StoreFact) (k : KStmt) (x : ℕ) (o : ValueOp) (e f d g : KExpr) → k ≡ Combine x o e f → Becomes F e d
    → Becomes F f g → Refines (KeepsFacts F) (Combine x o d g ∷ []) (k ∷ [])
refines_combine F k x o e f d g is b p = from_step F (Combine x o d g) k (Combine x o e f) is
    (refines_alike F (Combine x o e f) (Combine x o d g) (λ c n s k good.
    with_as s (apply_each (combined c.arithmetic o) (value e s) (value f s))
    (apply_each (combined c.arithmetic o) (value d s) (value g s))
    (λ v. Ended (set_var s x v)) (λ v. Ended (set_var s x v))
    (λ v h. each_settle (combined c.arithmetic o) (value e s) (value f s) (value d s) (value g s) v (λ n m. b.at s n k m)
    (λ n m. p.at s n k m) h) good (λ v g. refl)))

pub refines_put : (F : List StoreFact) (k : KStmt) (a : Arr) (i e j d : KExpr) → k ≡ Put a i e → Becomes F i j → Becomes F e d
    → Refines (KeepsFacts F) (Put a j d ∷ []) (k ∷ [])
refines_put F k a i e j d is b p = from_step F (Put a j d) k (Put a i e) is (refines_alike F (Put a i e) (Put a j d) (λ c n s k good.
    with_as s (value i s) (value j s) (λ i. with_value s (value e s) (λ v. with_array s a (changed s a i (λ old. v))))
    (λ i. with_value s (value d s) (λ v. with_array s a (changed s a i (λ old. v)))) (λ v h. b.at s v k h) good
    (λ m good. with_as s (value e s) (value d s) (λ v. with_array s a (changed s a m (λ old. v)))
    (λ v. with_array s a (changed s a m (λ old. v))) (λ v h. p.at s v k h) good (λ v g. refl))))

pub refines_sum : (F : List StoreFact) (k : KStmt) (a : Arr) (i e j d : KExpr) → k ≡ AddTo a i e → Becomes F i j → Becomes F e d
    → Refines (KeepsFacts F) (AddTo a j d ∷ []) (k ∷ [])
refines_sum F k a i e j d is b p = from_step F (AddTo a j d) k (AddTo a i e) is
    (refines_alike F (AddTo a i e) (AddTo a j d) (λ c n s k good.
    with_as s (value i s) (value j s) (λ i. add_outcome c.arithmetic s a (Some i) (value e s))
    (λ i. add_outcome c.arithmetic s a (Some i) (value d s)) (λ v h. b.at s v k h) good
    (λ m good. with_as s (value e s) (value d s) (λ v. add_outcome c.arithmetic s a (Some m) (Some v))
    (λ v. add_outcome c.arithmetic s a (Some m) (Some v)) (λ v h. p.at s v k h) good (λ v g. refl))))

pub refines_push : (F : List StoreFact) (k : KStmt) (a : Arr) (e d : KExpr) → k ≡ Push a e → Becomes F e d
    → Refines (KeepsFacts F) (Push a d ∷ []) (k ∷ [])
refines_push F k a e d is b = from_step F (Push a d) k (Push a e) is (refines_alike F (Push a e) (Push a d) (λ c n s k good.
    with_as s (value e s) (value d s) (λ v. push_outcome s a (Some v)) (λ v. push_outcome s a (Some v)) (λ v h. b.at s v k h) good
    (λ v g. refl)))

pub refines_extend : (F : List StoreFact) (k : KStmt) (a : Arr) (i e j d : KExpr) → k ≡ Extend a i e → Becomes F i j → Becomes F e d
    → Refines (KeepsFacts F) (Extend a j d ∷ []) (k ∷ [])
refines_extend F k a i e j d is b p = from_step F (Extend a j d) k (Extend a i e) is
    (refines_alike F (Extend a i e) (Extend a j d) (λ c n s k good.
    with_as s (value i s) (value j s) (λ i. extend_outcome s a (Some i) (value e s))
    (λ i. extend_outcome s a (Some i) (value d s)) (λ v h. b.at s v k h) good
    (λ m good. with_as s (value e s) (value d s) (λ v. extend_outcome s a (Some m) (Some v))
    (λ v. extend_outcome s a (Some m) (Some v)) (λ v h. p.at s v k h) good (λ v g. refl))))

pub refines_cut : (F : List StoreFact) (k : KStmt) (a : Arr) (e d : KExpr) → k ≡ Cut a e → Becomes F e d
    → Refines (KeepsFacts F) (Cut a d ∷ []) (k ∷ [])
refines_cut F k a e d is b = from_step F (Cut a d) k (Cut a e) is (refines_alike F (Cut a e) (Cut a d) (λ c n s k good.
    with_as s (value e s) (value d s) (λ v. cut_outcome c.cuts_results s a (Some v)) (λ v. cut_outcome c.cuts_results s a (Some v))
    (λ v h. b.at s v k h) good (λ v g. refl)))

-- choices
choice_as : (s : State) (p q : Option ℕ) (first second one other : Outcome) → ((v : ℕ) → p ≡ Some v → q ≡ Some v)
    → IsGood (choice s p first second) → ((v : ℕ) → p ≡ Some (suc v) → IsGood first → one ≡ first)
    → (p ≡ Some 0 → IsGood second → other ≡ second) → choice s q one other ≡ choice s p first second
choice_as s None q first second one other h good there elsewhere = absurd good
choice_as s (Some zero) q first second one other h good there elsewhere = ap (λ x. choice s x one other) (h 0 refl) ∙ elsewhere refl good
choice_as s (Some (suc v)) q first second one other h good there elsewhere =
    ap (λ x. choice s x one other) (h (suc v) refl) ∙ there v refl good

pub refines_choice : (F : List StoreFact) (k : KStmt) (e d : KExpr) (first second there elsewhere one other : List KStmt)
    → k ≡ If e first second → there ≡ first → elsewhere ≡ second → Becomes F e d → Refines (KeepsFacts F) one there
    → Refines (KeepsFacts F) other elsewhere → Refines (KeepsFacts F) (If d one other ∷ []) (k ∷ [])
refines_choice F k e d first second there elsewhere one other is one_is other_is b p q =
    let yes = subst (Refines (KeepsFacts F) one) one_is p in
    let no = subst (Refines (KeepsFacts F) other) other_is q in
    from_step F (If d one other) k (If e first second) is (refines_step F (If e first second) (If d one other) (λ c n s k good.
    plain_if c n d one other s
    ∙ choice_as s (value e s) (value d s) (plain c n first s) (plain c n second s) (plain c n one s) (plain c n other s)
    (λ v h. b.at s v k h) (good_now _ _ (plain_if c n e first second s) good)
    (λ v is good. yes.same c n s k good)
    (λ is good. no.same c n s k good)
    ∙ sym (plain_if c n e first second s)))

-- loops
turns_as : (F : List StoreFact) (n j : ℕ) (c : Setting) (k : LoopKind) (e d : KExpr) (body turned : List KStmt) → Becomes F e d
    → Refines (KeepsFacts F) turned body → (s : State) → KeepsFacts F s → IsGood (run_turns j k (value e) (plain c n body) s)
    → run_turns j k (value d) (plain c n turned) s ≡ run_turns j k (value e) (plain c n body) s
turns_as F n zero c k e d body turned b p s kept good =
    choice_as s (value e s) (value d s) More (Ended s) More (Ended s) (λ v h. b.at s v kept h) good (λ v is good. refl)
    (λ is good. refl)
turns_as F n (suc j) c k e d body turned b p s kept good =
    let again = run_turns j k (value e) (plain c n body) in
    let anew = run_turns j k (value d) (plain c n turned) in
    let t = one_turn s k in
    let first = plain c n body t in
    choice_as s (value e s) (value d s) (then_run first again) (Ended s) (then_run (plain c n turned t) anew) (Ended s)
    (λ v h. b.at s v kept h) good
    (λ v is good.
    ap (λ o. then_run o anew) (p.same c n t (turn_kept F s k kept) (good_first first again good))
    ∙ then_as F first again anew (code_keeps F c n body t (turn_kept F s k kept)) good
    (λ s kept good. turns_as F n j c k e d body turned b p s kept good))
    (λ is good. refl)

pub refines_loop : (F : List StoreFact) (kind : LoopKind) (e d : KExpr) (body turned : List KStmt) → Becomes F e d
    → Refines (KeepsFacts F) turned body → Refines (KeepsFacts F) (While kind d turned ∷ []) (While kind e body ∷ [])
refines_loop F kind e d body turned b p =
    refines_step F (While kind e body) (While kind d turned) (λ c n s kept good.
    plain_while c n kind d turned s
    ∙ turns_as F n n c kind e d body turned b p s kept (good_now _ _ (plain_while c n kind e body s) good)
    ∙ sym (plain_while c n kind e body s))

pub loop_now : (F : List StoreFact) (k : KStmt) (kind : LoopKind) (e d : KExpr) (body held turned : List KStmt) → k ≡ While kind e body
    → held ≡ body → Becomes F e d → Refines (KeepsFacts F) turned held → Refines (KeepsFacts F) (While kind d turned ∷ []) (k ∷ [])
loop_now F k kind e d body held turned is same b p =
    from_step F (While kind d turned) k (While kind e body) is
    (refines_loop F kind e d body turned b (subst (Refines (KeepsFacts F) turned) same p))

-- code to which a statement was appended
pub refines_pushed : (F : List StoreFact) (new all : List KStmt) → new ≡ all → Refines (KeepsFacts F) new all
refines_pushed F new all is = refines_now F new all all all is refl (refines_same F all)

-- a loop appended to code in the place of another
pub refines_appended : (F : List StoreFact) (out new : List KStmt) (k s : KStmt) → Refines (KeepsFacts F) new (out ++ k ∷ [])
    → Refines (KeepsFacts F) (k ∷ []) (s ∷ []) → Refines (KeepsFacts F) new (out ++ s ∷ [])
refines_appended F out new k s p q =
    refines_then F new (out ++ k ∷ []) (out ++ s ∷ []) p (refines_append F out (s ∷ []) out (k ∷ []) (refines_same F out) q)

-- a statement behind code that does what other code does
pub refines_appended_to : (F : List StoreFact) (old out new : List KStmt) (s : KStmt) → Refines (KeepsFacts F) out old
    → Refines (KeepsFacts F) new (out ++ s ∷ []) → Refines (KeepsFacts F) new (old ++ s ∷ [])
refines_appended_to F old out new s p q =
    refines_then F new (out ++ s ∷ []) (old ++ s ∷ []) q
    (refines_append F old (s ∷ []) out (s ∷ []) p (refines_same F (s ∷ [])))

module _ {A : Type 0} where
  pub if_ok_more : (r : Result A AllocError) (P Q : A → Type 0) → IfOk r P → ((x : A) → P x → Q x) → IfOk r Q
  if_ok_more (Ok x) P Q h f = f x h
  if_ok_more (Err why) P Q h f = tt
