-- Lemmas about loads that read the same where two variables have one value.
use Rattle.std.specs.Prelude.{◌≡◌, ◌≢◌, ℕ, List, [], ◌∷◌, ◌++◌, Option, Some, None, IfSome, refl}
use Rattle.std.proofs.Common.{◌∙◌, ap, sym, subst, append_assoc, inl, inr}
use Rattle.std.proofs.lemmas.Bool.Decides.{eqb_tells}
use Rattle.kernel_code.specs.declared.syntax.Arr.{Arr}
use Rattle.kernel_code.specs.declared.syntax.Op.{Op}
use Rattle.kernel_code.specs.declared.syntax.KExpr.{KExpr, Var, At, Bin}
use Rattle.kernel_code.specs.declared.syntax.KStmt.{KStmt, If, Set}
use Rattle.kernel_code.specs.Meaning.{Setting, State, Outcome, Ended, value, word_at, apply_both, then_run, set_var, set_outcome}
use Rattle.kernel_code.proofs.Equations.{value_at, value_bin}
use Rattle.kernel_code.proofs.Keeps.{this_var, other_var}
use Rattle.simplifier.specs.Refines.{Refines, plain}
use Rattle.simplifier.proofs.Unnumbered.{plain_append}
use Rattle.store_facts.specs.declared.facts.StoreFact.{StoreFact}
use Rattle.store_facts.specs.declared.loads.Load.{Load}
use Rattle.store_facts.specs.Facts.{KeepsFacts}
use Rattle.store_facts.specs.Loads.{last_word, load_code}
use Rattle.store_facts.specs.Names.{AreOne, IsLoadedAlike, MayEnd}
use Rattle.store_facts.proofs.CodeLemmas.{refines_append, refines_now, refines_same}
use Rattle.store_facts.proofs.LoopLemmas.{loaded, plain_load, plain_set}

-- words of an array, and operators of two
pub one_word : (x y : ℕ) (e f : KExpr) (a b : Arr) (i j i' j' : KExpr) → e ≡ At a i → f ≡ At b j → a ≡ b → i' ≡ i → j' ≡ j
    → AreOne x y i' j' → AreOne x y e f
one_word x y e f a b i j i' j' e_is f_is same i_is j_is h =
    subst (λ d. AreOne x y d f) (sym (e_is ∙ ap (At a) (sym i_is))) (subst (AreOne x y (At a i'))
    (sym (f_is ∙ ap (λ c. At c j) (sym same) ∙ ap (At a) (sym j_is)))
    (record { at = λ s is. value_at a i' s ∙ ap (word_at (s.arrays a)) (h.at s is) ∙ sym (value_at a j' s) }))

pub one_of_both : (x y : ℕ) (e f : KExpr) (o p : Op) (a b c d a' b' c' d' : KExpr) → e ≡ Bin o a b → f ≡ Bin p c d → o ≡ p → a' ≡ a
    → b' ≡ b → c' ≡ c → d' ≡ d → AreOne x y a' c' → AreOne x y b' d' → AreOne x y e f
one_of_both x y e f o p a b c d a' b' c' d' e_is f_is same a_is b_is c_is d_is g h =
    subst (λ d. AreOne x y d f) (sym (e_is ∙ ap (λ n. Bin o n b) (sym a_is) ∙ ap (Bin o a') (sym b_is))) (subst (AreOne x y (Bin o a' b'))
    (sym (f_is ∙ ap (λ q. Bin q c d) (sym same) ∙ ap (λ n. Bin o n d) (sym c_is) ∙ ap (Bin o c') (sym d_is)))
    (record {
      at = λ s is. value_bin o a' b' s ∙ ap (λ v. apply_both o v (value b' s)) (g.at s is)
          ∙ ap (apply_both o (value c' s)) (h.at s is) ∙ sym (value_bin o c' d' s);
    }))

-- behind a copy the two variables have one value
copied : (s : State) (x y v : ℕ) → s.vars y ≡ Some v → (set_var s x v).vars x ≡ (set_var s x v).vars y
copied s x y v is = elim (eqb_tells x y) [
  | inl e ↦ ap (set_var s x v).vars e.1
  | inr n ↦ this_var s x v ∙ sym is ∙ sym (other_var s x y v n.1)
]

-- so a load that reads the one does what one does that reads the other
alike : (c : Setting) (n x y : ℕ) (last : KStmt) (load : Load) → IsLoadedAlike x y last load → (t : State) → t.vars x ≡ t.vars y
    → plain c n (load_code load ∷ []) t ≡ plain c n (last ∷ []) t
alike c n x y last load h t same =
    let other : Load = record { variable = load.variable; test = h.test; coordinate = h.sets.coordinate } in
    let is : last ≡ load_code other = h.is ∙ ap (λ code. If h.test code (Set load.variable last_word ∷ [])) h.sets.code_is in
    plain_load c n load t
    ∙ ap (λ p. loaded load.variable 18446744073709551615 t p (value load.coordinate t)) (h.tests.at t same)
    ∙ ap (loaded load.variable 18446744073709551615 t (value h.test t)) (h.sets.reads.at t same)
    ∙ sym (plain_load c n other t) ∙ ap (λ k. plain c n (k ∷ []) t) (sym is)

behind_copy : (c : Setting) (n x y : ℕ) (k : KStmt) (s : State)
    → plain c n (Set x (Var y) ∷ k ∷ []) s ≡ then_run (set_outcome s x (s.vars y)) (plain c n (k ∷ []))
behind_copy c n x y k s =
    plain_append c n (Set x (Var y) ∷ []) (k ∷ []) s ∙ ap (λ o. then_run o (plain c n (k ∷ []))) (plain_set c n x (Var y) s)

same_behind : (s : State) (x y : ℕ) (v : Option ℕ) (f g : State → Outcome) → s.vars y ≡ v
    → ((t : State) → t.vars x ≡ t.vars y → f t ≡ g t) → then_run (set_outcome s x v) f ≡ then_run (set_outcome s x v) g
same_behind s x y None f g is same = refl
same_behind s x y (Some v) f g is same = same (set_var s x v) (copied s x y v is)

copy_and_load : (F : List StoreFact) (x y : ℕ) (last : KStmt) (load : Load) → IsLoadedAlike x y last load
    → Refines (KeepsFacts F) (Set x (Var y) ∷ load_code load ∷ []) (Set x (Var y) ∷ last ∷ [])
copy_and_load F x y last load h = record {
  same = λ c n s kept good.
      behind_copy c n x y (load_code load) s
      ∙ same_behind s x y (s.vars y) (plain c n (load_code load ∷ [])) (plain c n (last ∷ [])) refl (alike c n x y last load h)
      ∙ sym (behind_copy c n x y last s);
}

-- what was found for the code that was looked at
pub found_now : (held before : List KStmt) (found : Option KStmt) (named : KStmt) → held ≡ before → found ≡ Some named
    → IfSome found (MayEnd held) → MayEnd before named
found_now held before found named ahead is h =
    subst (λ code. MayEnd code named) ahead (subst (λ o. IfSome o (MayEnd held)) is h)

pub of_some : (k : KStmt) (found : Option Load) (load : Load) → found ≡ Some load → IfSome found (λ l. k ≡ load_code l) → k ≡ load_code load
of_some k found load is h = subst (λ o. IfSome o (λ l. k ≡ load_code l)) is h

-- the code that a load ends, and the same code by another
pub front_of : (code : List KStmt) (named : KStmt) (may : MayEnd code named)
    → code ≡ (may.front ++ Set may.x (Var may.y) ∷ []) ++ may.last ∷ []
front_of code named may = may.code_is ∙ sym (append_assoc may.front (Set may.x (Var may.y) ∷ []) (may.last ∷ []))

pub named_ends : (F : List StoreFact) (code front new : List KStmt) (named : KStmt) (may : MayEnd code named)
    → front ≡ may.front ++ Set may.x (Var may.y) ∷ [] → new ≡ front ++ named ∷ [] → Refines (KeepsFacts F) new code
named_ends F code front new named may is made =
    let copy = Set may.x (Var may.y) in
    refines_now F new (may.front ++ copy ∷ load_code may.load ∷ []) code (may.front ++ copy ∷ may.last ∷ [])
    (made ∙ ap (λ xs. xs ++ named ∷ []) is ∙ append_assoc may.front (copy ∷ []) (named ∷ [])
    ∙ ap (λ k. may.front ++ copy ∷ k ∷ []) may.named_is)
    may.code_is
    (refines_append F may.front (copy ∷ may.last ∷ []) may.front (copy ∷ load_code may.load ∷ []) (refines_same F may.front)
    (copy_and_load F may.x may.y may.last may.load may.alike))
