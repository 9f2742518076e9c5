-- Lemmas about statements that stand right before a choice, and may stand in its bodies.
use Rattle.std.specs.Prelude.{◌≡◌, ◌≢◌, ℕ, zero, suc, ◌+◌, ◌-◌, ◌≤◌, ◌<◌, List, [], ◌∷◌, ◌++◌, Option, Some, None}
use Rattle.std.specs.Prelude.{length, reverse, refl}
use Rattle.std.proofs.Common.{◌∙◌, ap, sym, subst, take, drop, get_or, append_assoc, arith}
use Rattle.std.proofs.lemmas.List.{drop-append-le, drop_all, drop_more, length-take-le, reverse-append, take-append-drop}
use Rattle.kernel_code.specs.declared.syntax.Arr.{Arr}
use Rattle.kernel_code.specs.declared.syntax.Op.{Op}
use Rattle.kernel_code.specs.declared.syntax.ValueOp.{ValueOp}
use Rattle.kernel_code.specs.declared.syntax.KExpr.{KExpr, At, Bin, Min, Width}
use Rattle.kernel_code.specs.declared.syntax.KStmt.{KStmt, Set, Combine, If}
use Rattle.kernel_code.specs.Keeps.{Mentions, EveryArray}
use Rattle.kernel_code.specs.Meaning.{State, Outcome, Ended, Stuck, Over, More, value, then_run, choice, set_outcome, set_var}
use Rattle.kernel_code.specs.Meaning.{apply_each, combined}
use Rattle.kernel_code.proofs.Behind.{then_same}
use Rattle.kernel_code.proofs.Keeps.{mentions_at, mentions_bin, mentions_min, mentions_width, other_var, value_kept}
use Rattle.simplifier.specs.Refines.{plain}
use Rattle.simplifier.specs.Same.{unnumbered}
use Rattle.simplifier.proofs.Unnumbered.{plain_append}
use Rattle.jump_threading.specs.Alike.{DoesAlike}
use Rattle.jump_threading.specs.Leads.{Avoids, LeavesValue, LeavesValueTo, last_of}
use Rattle.jump_threading.proofs.CodeLemmas.{alike_behind, alike_before, alike_now, alike_then}
use Rattle.jump_threading.proofs.ChoiceLemmas.{alike_choice, alone, plain_choice}

-- expressions that don't mention a variable
module _ (x : ℕ) where
  abbrev Others : ℕ → Type 0
  Others = λ y. x ≢ y

  pub avoids_at : (e i j : KExpr) (a : Arr) → e ≡ At a i → j ≡ i → Avoids x j → Avoids x e
  avoids_at e i j a is same h = record {
    mentions = subst (Mentions Others EveryArray) (sym is)
        (mentions_at Others EveryArray a i tt (subst (Mentions Others EveryArray) same h.mentions));
  }

  pub avoids_bin : (e a b c d : KExpr) (o : Op) → e ≡ Bin o a b → c ≡ a → d ≡ b → Avoids x c → Avoids x d → Avoids x e
  avoids_bin e a b c d o is first second h g = record {
    mentions = subst (Mentions Others EveryArray) (sym is)
        (mentions_bin Others EveryArray o a b (subst (Mentions Others EveryArray) first h.mentions)
        (subst (Mentions Others EveryArray) second g.mentions));
  }

  pub avoids_min : (e a b c d : KExpr) → e ≡ Min a b → c ≡ a → d ≡ b → Avoids x c → Avoids x d → Avoids x e
  avoids_min e a b c d is first second h g = record {
    mentions = subst (Mentions Others EveryArray) (sym is)
        (mentions_min Others EveryArray a b (subst (Mentions Others EveryArray) first h.mentions)
        (subst (Mentions Others EveryArray) second g.mentions));
  }

  pub avoids_width : (e a c : KExpr) → e ≡ Width a → c ≡ a → Avoids x c → Avoids x e
  avoids_width e a c is same h = record {
    mentions = subst (Mentions Others EveryArray) (sym is)
        (mentions_width Others EveryArray a (subst (Mentions Others EveryArray) same h.mentions));
  }

-- code that leaves an expression's value
pub leaves_nothing : (e : KExpr) → LeavesValue [] e
leaves_nothing e = record { at = λ c n s. (refl, refl) }

leaves_from : (e : KExpr) (s t : State) (o : Outcome) → value e t ≡ value e s → t.turns ≡ s.turns → LeavesValueTo e t o
    → LeavesValueTo e s o
leaves_from e s t (Ended u) is same h = (h.0 ∙ is, h.1 ∙ same)
leaves_from e s t (Stuck turns statement) is same h = (h.0 ∙ same, h.1)
leaves_from e s t (Over turns a count) is same h = h
leaves_from e s t More is same h = h

leaves_so : (e : KExpr) (s : State) (o : Outcome) (f : State → Outcome) → LeavesValueTo e s o → ((t : State) → LeavesValueTo e t (f t))
    → LeavesValueTo e s (then_run o f)
leaves_so e s (Ended t) f h next = leaves_from e s t (f t) h.0 h.1 (next t)
leaves_so e s (Stuck turns statement) f h next = h
leaves_so e s (Over turns a count) f h next = h
leaves_so e s More f h next = h

pub leaves_then : (a b : List KStmt) (e : KExpr) → LeavesValue a e → LeavesValue b e → LeavesValue (a ++ b) e
leaves_then a b e h g = record {
  at = λ c n s.
      subst (LeavesValueTo e s) (sym (plain_append c n a b s)) (leaves_so e s (plain c n a s) (plain c n b) (h.at c n s) (g.at c n));
}

leaves_set_to : (e : KExpr) (s : State) (x : ℕ) (v : Option ℕ) → Avoids x e → LeavesValueTo e s (unnumbered (set_outcome s x v))
leaves_set_to e s x None h = (refl, refl)
leaves_set_to e s x (Some v) h =
    (value_kept (λ y. x ≢ y) EveryArray e s (set_var s x v) h.mentions (λ y m. other_var s x y v m) (λ a m. refl), refl)

pub leaves_set : (k : KStmt) (x : ℕ) (f e : KExpr) → k ≡ Set x f → Avoids x e → LeavesValue (k ∷ []) e
leaves_set k x f e is h = subst (λ s. LeavesValue (s ∷ []) e) (sym is) (record {
  at = λ c n s. subst (LeavesValueTo e s) (sym (alone c n (Set x f) s)) (leaves_set_to e s x (value f s) h);
})

pub leaves_combine : (k : KStmt) (x : ℕ) (o : ValueOp) (f g e : KExpr) → k ≡ Combine x o f g → Avoids x e → LeavesValue (k ∷ []) e
leaves_combine k x o f g e is h = subst (λ s. LeavesValue (s ∷ []) e) (sym is) (record {
  at = λ c n s.
      subst (LeavesValueTo e s) (sym (alone c n (Combine x o f g) s))
      (leaves_set_to e s x (apply_each (combined c.arithmetic o) (value f s) (value g s)) h);
})

-- a choice by a test whose value is left
choice_turns : (s t : State) (v : Option ℕ) (o p : Outcome) → t.turns ≡ s.turns → choice s v o p ≡ choice t v o p
choice_turns s t None o p is = ap (λ k. Stuck k 1) (sym is)
choice_turns s t (Some zero) o p is = refl
choice_turns s t (Some (suc v)) o p is = refl

choice_stuck : (s : State) (v : Option ℕ) (turns : _) (statement : ℕ) → turns ≡ s.turns → statement ≡ 1
    → choice s v (Stuck turns statement) (Stuck turns statement) ≡ Stuck turns statement
choice_stuck s None turns statement is one = ap (λ k. Stuck k 1) (sym is) ∙ ap (Stuck turns) (sym one)
choice_stuck s (Some zero) turns statement is one = refl
choice_stuck s (Some (suc v)) turns statement is one = refl

choice_led : (e : KExpr) (s : State) (o : Outcome) (f g : State → Outcome) → LeavesValueTo e s o
    → choice s (value e s) (then_run o f) (then_run o g) ≡ then_run o (λ t. choice t (value e t) (f t) (g t))
choice_led e s (Ended t) f g h =
    choice_turns s t (value e s) (f t) (g t) h.1 ∙ ap (λ v. choice t v (f t) (g t)) (sym h.0)
choice_led e s (Stuck turns statement) f g h = choice_stuck s (value e s) turns statement h.0 h.1
choice_led e s (Over turns a count) f g h = absurd h
choice_led e s More f g h = absurd h

takes_lead : (e : KExpr) (a b lead : List KStmt) → LeavesValue lead e
    → DoesAlike (If e (lead ++ a) (lead ++ b) ∷ []) (lead ++ If e a b ∷ [])
takes_lead e a b lead h = record {
  over = λ m. record {
    from = λ c q n s.
        let o = plain c n lead s in
        plain_choice c n e (lead ++ a) (lead ++ b) s
        ∙ ap (λ p. choice s (value e s) p (plain c n (lead ++ b) s)) (plain_append c n lead a s)
        ∙ ap (λ p. choice s (value e s) (then_run o (plain c n a)) p) (plain_append c n lead b s)
        ∙ choice_led e s o (plain c n a) (plain c n b) (h.at c n s)
        ∙ then_same o (λ t. choice t (value e t) (plain c n a t) (plain c n b t)) (plain c n (If e a b ∷ []))
        (λ t. sym (plain_choice c n e a b t))
        ∙ sym (plain_append c n lead (If e a b ∷ []) s);
  };
}

-- a choice that takes in what leads to it, whose bodies have been passed
pub choice_led_on : (lead held one other there elsewhere first second : List KStmt) (k new : KStmt) (e : KExpr) → k ≡ If e first second
    → there ≡ first → elsewhere ≡ second → held ≡ lead → LeavesValue lead e → DoesAlike one there → DoesAlike other elsewhere
    → new ≡ If e (held ++ one) (held ++ other) → DoesAlike (new ∷ []) (lead ++ k ∷ [])
choice_led_on lead held one other there elsewhere first second k new e is there_is elsewhere_is held_is h p q new_is =
    let led = If e (lead ++ one) (lead ++ other) ∷ [] in
    let passed = If e one other ∷ [] in
    alike_now (new ∷ []) led (lead ++ k ∷ []) (lead ++ If e first second ∷ [])
    (ap (λ x. x ∷ []) new_is ∙ ap (λ x. If e (x ++ one) (x ++ other) ∷ []) held_is) (ap (λ x. lead ++ x ∷ []) is)
    (alike_then led (lead ++ passed) (lead ++ If e first second ∷ []) (takes_lead e one other lead h)
    (alike_before lead passed (If e first second ∷ [])
    (alike_choice e one other first second (subst (DoesAlike one) there_is p) (subst (DoesAlike other) elsewhere_is q))))

-- the last statements, and one more before them
pub leaves_more : (before : List KStmt) (e : KExpr) (i : ℕ) (s : KStmt) → i < length before → s ≡ get_or before (length before - 1 - i) s
    → LeavesValue (s ∷ []) e → LeavesValue (last_of i before) e → LeavesValue (last_of (i + 1) before) e
leaves_more before e i s l is h g =
    let m = length before - 1 - i in
    let inside : m < length before = omega arith in
    let next : length before - i ≡ m + 1 = omega arith in
    let here : length before - (i + 1) ≡ m = omega arith in
    let all : last_of (i + 1) before ≡ s ∷ last_of i before =
    ap (λ k. drop k before) here ∙ drop_more before m s inside ∙ ap (λ x. x ∷ drop (m + 1) before) (sym is)
    ∙ ap (λ k. s ∷ drop k before) (sym next) in
    subst (λ xs. LeavesValue xs e) (sym all) (leaves_then (s ∷ []) (last_of i before) e h g)

-- code from a place on, by the statements up to another place, the one there and those behind it
split_behind : (code : List KStmt) (m i : ℕ) (s : KStmt) → i ≤ m → m < length code → s ≡ get_or code m s
    → drop i code ≡ (drop i (take m code) ++ s ∷ []) ++ drop (m + 1) code
split_behind code m i s l lt is =
    let long : i ≤ length (take m code) = omega (arith, length-take-le m code (omega arith)) in
    ap (drop i) (sym (take-append-drop m code)) ∙ drop-append-le i (take m code) (drop m code) long
    ∙ ap (λ xs. drop i (take m code) ++ xs) (drop_more code m s lt ∙ ap (λ x. x ∷ drop (m + 1) code) (sym is))
    ∙ sym (append_assoc (drop i (take m code)) (s ∷ []) (drop (m + 1) code))

-- one more statement, with those before it that it takes in
pub one_before : (code first : List KStmt) (m lead : ℕ) (s t : KStmt) (backwards new : List KStmt) → m < length code → first ≡ take m code
    → s ≡ get_or code m s → lead ≤ length first → DoesAlike (t ∷ []) (last_of lead first ++ s ∷ [])
    → DoesAlike (reverse backwards) (drop (m + 1) code) → new ≡ backwards ++ t ∷ []
    → DoesAlike (reverse new) (drop (m - lead) code)
one_before code first m lead s t backwards new l part is within p q same =
    let long : length (take m code) ≡ m = length-take-le m code (omega arith) in
    let all : length first ≡ m = ap length part ∙ long in
    let place : last_of lead first ≡ drop (m - lead) (take m code) =
    ap (λ n. drop (n - lead) first) all ∙ ap (drop (m - lead)) part in
    let step = last_of lead first ++ s ∷ [] in
    let rest = drop (m + 1) code in
    alike_now (reverse new) (t ∷ reverse backwards) (drop (m - lead) code) (step ++ rest)
    (ap reverse same ∙ reverse-append backwards (t ∷ []))
    (split_behind code m (m - lead) s (omega arith) l is ∙ ap (λ xs. (xs ++ s ∷ []) ++ rest) (sym place))
    (alike_then (t ∷ reverse backwards) (t ∷ rest) (step ++ rest)
    (alike_before (t ∷ []) (reverse backwards) rest q) (alike_behind (t ∷ []) step rest p))

-- code without statements before it
pub last_none : (before : List KStmt) → last_of 0 before ≡ []
last_none before = drop_all (length before - 0) before (omega arith)

-- a statement that takes in none
pub alone_led : (before : List KStmt) (k new : KStmt) → DoesAlike (new ∷ []) (k ∷ []) → DoesAlike (new ∷ []) (last_of 0 before ++ k ∷ [])
alone_led before k new p =
    subst (λ xs. DoesAlike (new ∷ []) (xs ++ k ∷ [])) (sym (last_none before)) p
