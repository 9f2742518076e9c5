-- Lemmas about values that are written where a variable is read.
use Rattle.std.specs.Prelude.{◌≡◌, ℕ, ◌+◌, ◌-◌, ◌<◌, min, Bool, true, false, ◌==◌, if◌then◌else◌, List, [], ◌∷◌}
use Rattle.std.specs.Prelude.{Option, Some, None, length, drop, refl}
use Rattle.std.proofs.Common.{◌∙◌, ap, sym, subst, get_or, arith}
use Rattle.std.proofs.lemmas.Bool.{false≢true}
use Rattle.std.proofs.lemmas.List.{drop_all, drop_more}
use Rattle.lists.proofs.Tests.{same_number}
use Rattle.kernel_code.specs.declared.syntax.Arr.{Arr}
use Rattle.kernel_code.specs.declared.syntax.Op.{Op}
use Rattle.kernel_code.specs.declared.syntax.KExpr.{KExpr, Num, Var, At, Len, Bin, Min, Width}
use Rattle.kernel_code.specs.declared.syntax.KStmt.{KStmt, Set}
use Rattle.kernel_code.specs.Meaning.{Setting, State, Outcome, Ended, Stuck, Over, More, value, set_var, word_at, width_of}
use Rattle.kernel_code.specs.Meaning.{apply_each, apply_both, with_value, then_run, run}
use Rattle.kernel_code.proofs.Equations.{value_at, value_bin, value_min, value_width}
use Rattle.simplifier.specs.Refines.{plain}
use Rattle.simplifier.specs.Same.{unnumbered}
use Rattle.simplifier.proofs.Unnumbered.{plain_append}
use Rattle.dead_code.specs.Follows.{Vars, with_vars, EndsAlike}
use Rattle.dead_code.specs.Gathers.{AreGathered, Gathers, Leaves, PutIn, ReadsBackTo, last_of}
use Rattle.dead_code.specs.Live.{is_live, Agree}
use Rattle.dead_code.proofs.Following.{alike_now, alone, given}
use Rattle.dead_code.proofs.LiveLemmas.{reads_as}

-- expressions
pub put_same : (x y : ℕ) (e : KExpr) → (x == y) ≡ true → PutIn x e (Var y) e
put_same x y e h = record { at = λ s n is. is ∙ sym (ap (λ b. if b then Some n else s.vars y) h) }

pub put_other : (x y : ℕ) (e : KExpr) → (x == y) ≡ false → PutIn x e (Var y) (Var y)
put_other x y e h = record { at = λ s n is. sym (ap (λ b. if b then Some n else s.vars y) h) }

pub put_num : (x k : ℕ) (e : KExpr) → PutIn x e (Num k) (Num k)
put_num x k e = record { at = λ s n is. refl }

pub put_len : (x : ℕ) (a : Arr) (e : KExpr) → PutIn x e (Len a) (Len a)
put_len x a e = record { at = λ s n is. refl }

put_at : (x : ℕ) (a : Arr) (e i j : KExpr) → PutIn x e i j → PutIn x e (At a i) (At a j)
put_at x a e i j p = record {
  at = λ s n is. value_at a j s ∙ ap (word_at (s.arrays a)) (p.at s n is) ∙ sym (value_at a i (set_var s x n));
}

put_bin : (x : ℕ) (o : Op) (e a b f g : KExpr) → PutIn x e a f → PutIn x e b g → PutIn x e (Bin o a b) (Bin o f g)
put_bin x o e a b f g p q = record {
  at = λ s n is.
      value_bin o f g s ∙ ap (λ v. apply_both o v (value g s)) (p.at s n is)
      ∙ ap (apply_both o (value a (set_var s x n))) (q.at s n is) ∙ sym (value_bin o a b (set_var s x n));
}

put_min : (x : ℕ) (e a b f g : KExpr) → PutIn x e a f → PutIn x e b g → PutIn x e (Min a b) (Min f g)
put_min x e a b f g p q = record {
  at = λ s n is.
      value_min f g s ∙ ap (λ v. apply_each min v (value g s)) (p.at s n is)
      ∙ ap (apply_each min (value a (set_var s x n))) (q.at s n is) ∙ sym (value_min a b (set_var s x n));
}

put_width : (x : ℕ) (e i j : KExpr) → PutIn x e i j → PutIn x e (Width i) (Width j)
put_width x e i j p = record {
  at = λ s n is. value_width j s ∙ ap width_of (p.at s n is) ∙ sym (value_width i (set_var s x n));
}

put_now : (x : ℕ) (e f f' g g' : KExpr) → f ≡ f' → g ≡ g' → PutIn x e f' g' → PutIn x e f g
put_now x e f f' g g' is same p = subst (λ k. PutIn x e k g) (sym is) (subst (PutIn x e f') (sym same) p)

-- expressions made of parts
module _ (x : ℕ) (e f : KExpr) where
  pub put_in_at : (a : Arr) (i held j box : KExpr) → f ≡ At a i → held ≡ i → PutIn x e held j → box ≡ j → PutIn x e f (At a box)
  put_in_at a i held j box is here p same =
      put_now x e f (At a held) (At a box) (At a j) (is ∙ ap (At a) (sym here)) (ap (At a) same) (put_at x a e held j p)

  pub put_in_width : (i held j box : KExpr) → f ≡ Width i → held ≡ i → PutIn x e held j → box ≡ j → PutIn x e f (Width box)
  put_in_width i held j box is here p same =
      put_now x e f (Width held) (Width box) (Width j) (is ∙ ap Width (sym here)) (ap Width same) (put_width x e held j p)

  pub put_in_bin : (o : Op) (a b c d g h one other : KExpr) → f ≡ Bin o a b → c ≡ a → d ≡ b → PutIn x e c g → PutIn x e d h → one ≡ g
      → other ≡ h → PutIn x e f (Bin o one other)
  put_in_bin o a b c d g h one other is first second p q same last =
      put_now x e f (Bin o c d) (Bin o one other) (Bin o g h) (is ∙ ap (λ k. Bin o k b) (sym first) ∙ ap (Bin o c) (sym second))
      (ap (λ k. Bin o k other) same ∙ ap (Bin o g) last) (put_bin x o e c d g h p q)

  pub put_in_min : (a b c d g h one other : KExpr) → f ≡ Min a b → c ≡ a → d ≡ b → PutIn x e c g → PutIn x e d h → one ≡ g
      → other ≡ h → PutIn x e f (Min one other)
  put_in_min a b c d g h one other is first second p q same last =
      put_now x e f (Min c d) (Min one other) (Min g h) (is ∙ ap (λ k. Min k b) (sym first) ∙ ap (Min c) (sym second))
      (ap (λ k. Min k other) same ∙ ap (Min g) last) (put_min x e c d g h p q)

-- operands
pub gathers_none : (live : List Bool) (e f : KExpr) → Gathers live [] e f e f
gathers_none live e f = record { at = λ c n s. record { is = refl; agree = record { at = λ x k. refl }; first = refl; second = refl } }

unset : (b : Bool) (m : ℕ) (p q : Option ℕ) → (b ≡ true → ⊥) → p ≡ (if b then Some m else q) → p ≡ q
unset true m p q apart is = absurd (apart refl)
unset false m p q apart is = is

apart_live : (live : List Bool) (x y : ℕ) → is_live live x ≡ false → is_live live y ≡ true → (x == y) ≡ true → ⊥
apart_live live x y dead k is = false≢true (sym dead ∙ ap (is_live live) (same_number x y is) ∙ k)

agree_unset : (live : List Bool) (x m : ℕ) (v w : Vars) → is_live live x ≡ false → Agree live v (given w x m) → Agree live v w
agree_unset live x m v w dead h = record {
  at = λ y k. sym (unset (x == y) m (v y) (w y) (apart_live live x y dead k) (sym (h.at y k)));
}

module _ (live : List Bool) (e f g h : KExpr) (x : ℕ) (v : KExpr) (j k : KExpr) (dead : is_live live x ≡ false) (first : PutIn x v g j)
    (second : PutIn x v h k) where
  back : (s : State) (m : ℕ) → value v s ≡ Some m → (o : Outcome) → ReadsBackTo live e f g h (set_var s x m) o
      → ReadsBackTo live e f j k s o
  back s m is (Ended t) r = record {
    is = r.is;
    agree = agree_unset live x m t.vars s.vars dead r.agree;
    first = first.at s m is ∙ r.first;
    second = second.at s m is ∙ r.second;
  }
  back s m is (Stuck turns statement) r = tt
  back s m is (Over turns a count) r = r
  back s m is More r = r

  past : (code : List KStmt) → Gathers live code e f g h → (c : Setting) (n : ℕ) (s : State) (o : Option ℕ) → value v s ≡ o
      → ReadsBackTo live e f j k s (then_run (unnumbered (with_value s o (λ m. Ended (set_var s x m)))) (plain c n code))
  past code p c n s None is = tt
  past code p c n s (Some m) is = back s m is (plain c n code (set_var s x m)) (p.at c n (set_var s x m))

  -- one more statement before
  pub gathers_more : (code : List KStmt) → Gathers live code e f g h → Gathers live (Set x v ∷ code) e f j k
  gathers_more code p = record {
    at = λ c n s.
        subst (ReadsBackTo live e f j k s)
        (sym (plain_append c n (Set x v ∷ []) code s ∙ ap (λ o. then_run o (plain c n code)) (alone c n (Set x v) s)))
        (past code p c n s (value v s) refl);
  }

pub none_last : (code : List KStmt) → last_of 0 code ≡ []
none_last code = drop_all (length code - 0) code (omega arith)

last_more : (code : List KStmt) (n : ℕ) (s : KStmt) → n < length code → s ≡ get_or code (length code - 1 - n) s
    → last_of (n + 1) code ≡ s ∷ last_of n code
last_more code n s l is =
    let i = length code - (n + 1) in
    let inside : i < length code = omega (arith, l) in
    let place : i ≡ length code - 1 - n = omega (arith, l) in
    let next : i + 1 ≡ length code - n = omega (arith, l) in
    drop_more code i s inside ∙ ap (λ x. x ∷ drop (i + 1) code) (ap (λ j. get_or code j s) place ∙ sym is)
    ∙ ap (λ j. s ∷ drop j code) next

module _ (live : List Bool) (before : List KStmt) (e f : KExpr) where
  pub gather_start : (g h : KExpr) → g ≡ e → h ≡ f → Gathers live (last_of 0 before) e f g h
  gather_start g h is same =
      subst (λ code. Gathers live code e f g h) (sym (none_last before))
      (subst (λ k. Gathers live [] e f k h) (sym is) (subst (Gathers live [] e f e) (sym same) (gathers_none live e f)))

  pub gather_more : (n : ℕ) (s : KStmt) (x : ℕ) (v g h j k : KExpr) → n < length before → s ≡ get_or before (length before - 1 - n) s
      → s ≡ Set x v → is_live live x ≡ false → PutIn x v g j → PutIn x v h k → Gathers live (last_of n before) e f g h
      → Gathers live (last_of (n + 1) before) e f j k
  gather_more n s x v g h j k l place is dead first second p =
      subst (λ code. Gathers live code e f j k) (sym (last_more before n s l place ∙ ap (λ t. t ∷ last_of n before) is))
      (gathers_more live e f g h x v j k dead first second (last_of n before) p)

  pub gather_end : (n taken : ℕ) (g h : KExpr) → taken ≡ n → Gathers live (last_of n before) e f g h
      → Gathers live (last_of taken before) e f g h
  gather_end n taken g h is p = subst (λ m. Gathers live (last_of m before) e f g h) (sym is) p

pub first_now : (live after : List Bool) (before : List KStmt) (e f g j h : KExpr) (taken : ℕ) → j ≡ g
    → AreGathered live after before e f g h taken → AreGathered live after before e f j h taken
first_now live after before e f g j h taken is r = subst (λ k. AreGathered live after before e f k h taken) (sym is) r

-- a statement that reads the operands
module _ (live inside after : List Bool) (before : List KStmt) (taken : ℕ) (e f g h : KExpr) (k j : KStmt) where
  abbrev Steps : Type 0
  Steps = (c : Setting) (n : ℕ) (t : State) (w : Vars) → Agree inside t.vars w → value g (with_vars t w) ≡ value e t
      → value h (with_vars t w) ≡ value f t → EndsAlike (Agree after) (unnumbered (run c n k t)) (unnumbered (run c n j (with_vars t w)))

  from_there : AreGathered live inside before e f g h taken → Steps → (c : Setting) (n : ℕ) (s : State) (w : Vars) → Agree live s.vars w
      → (o : Outcome) → ReadsBackTo inside e f g h s o
      → EndsAlike (Agree after) (then_run o (plain c n (k ∷ []))) (unnumbered (run c n j (with_vars s w)))
  from_there r step c n s w tied (Stuck turns statement) b = tt
  from_there r step c n s w tied (Over turns a count) b = absurd b
  from_there r step c n s w tied More b = absurd b
  from_there r step c n s w tied (Ended t) b =
      let same : with_vars s w ≡ with_vars t w = ap (λ u. with_vars u w) (sym b.is) in
      alike_now (Agree after) _ _ _ _ (alone c n k t) (ap (λ u. unnumbered (run c n j u)) same)
      (step c n t w (record { at = λ y l. tied.at y (r.covers.at y l) ∙ b.agree.at y l })
      (sym (ap (value g) same) ∙ (reads_as live g r.first).at s w tied ∙ b.first)
      (sym (ap (value h) same) ∙ (reads_as live h r.second).at s w tied ∙ b.second))

  pub gathered : AreGathered live inside before e f g h taken → Steps → Leaves live before k (Some j) taken after
  gathered r step = record {
    within = r.within;
    follows = record {
      at = λ c n s w tied.
          alike_now (Agree after) _ _ _ _ (plain_append c n (last_of taken before) (k ∷ []) s) (alone c n j (with_vars s w))
          (from_there r step c n s w tied (plain c n (last_of taken before) s) (r.gathers.at c n s));
    };
  }
