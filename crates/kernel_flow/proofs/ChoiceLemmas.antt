-- Lemmas about what is known under a test.
use Rattle.std.specs.Prelude.{◌≡◌, ◌≢◌, ℕ, zero, suc, Bool, true, false, nat_lt, ◌==◌, ◌&&◌, List, [], ◌∷◌, ◌++◌}
use Rattle.std.specs.Prelude.{Option, Some, None, Result, Ok, Err, OnOk, refl}
use Rattle.std.specs.declared.alloc.AllocError.{AllocError}
use Rattle.std.proofs.Common.{◌∙◌, ap, sym, subst, arith}
use Rattle.lists.proofs.Tests.{number_same, same_number}
use Rattle.kernel_code.specs.declared.syntax.Op.TheVariants.{Equal, And}
use Rattle.kernel_code.specs.declared.syntax.KExpr.{KExpr, Num, Var, Bin}
use Rattle.kernel_code.specs.Keeps.{Mentions}
use Rattle.kernel_code.specs.Meaning.{State, value, set_var, word_of, apply_both}
use Rattle.kernel_code.proofs.Equations.{value_bin}
use Rattle.kernel_code.proofs.Keeps.{mentions_bin, this_var}
use Rattle.kernel_flow.specs.declared.facts.Fact.{Fact}
use Rattle.kernel_flow.specs.Facts.{Holds, AllHold, Gives, WhereNot, WhereZero}
use Rattle.kernel_flow.specs.Choices.{Joins, Sides, Tells, WhereSame, is_value}
use Rattle.kernel_flow.specs.Steady.{AnyVariable, IsReadOnly}
use Rattle.kernel_flow.proofs.FactLemmas.{any_mentioned, both_hold, hold_apart, one_more, value_after_set}

-- what is pushed holds
pushed_all : (fs new : List Fact) (f : Fact) (s : State) → new ≡ fs ++ f ∷ [] → AllHold fs s → Holds f s → AllHold new s
pushed_all fs new f s is all h = subst (λ xs. AllHold xs s) (sym is) (one_more fs f s all h)

-- a fact whose sides have one value
holds_as : (f : Fact) (a b : KExpr) (s : State) → f.left ≡ a → f.right ≡ b → value a s ≡ value b s → Mentions AnyVariable IsReadOnly a
    → Mentions AnyVariable IsReadOnly b → Holds f s
holds_as f a b s l r is m n = record {
  same = ap (λ e. value e s) l ∙ is ∙ sym (ap (λ e. value e s) r);
  left = subst (Mentions AnyVariable IsReadOnly) (sym l) m;
  right = subst (Mentions AnyVariable IsReadOnly) (sym r) n;
}

-- operators
equal_some : (b : Bool) (x y v : ℕ) → (x == y) ≡ b → Some (word_of b) ≡ Some (suc v) → Some x ≡ Some y
equal_some true x y v is h = ap Some (same_number x y is)
equal_some false x y v is h = let wrong : 0 ≡ suc v = cc in absurd (omega (arith, wrong))

equal_values : (p q : Option ℕ) (v : ℕ) → apply_both Equal p q ≡ Some (suc v) → p ≡ q
equal_values None q v h = cc
equal_values (Some x) None v h = cc
equal_values (Some x) (Some y) v h = equal_some (x == y) x y v refl h

zero_one : ◌≡◌ {A = ℕ} 0 1 → ⊥
zero_one h = omega (arith, h)

some_same : {x y : ℕ} → Some x ≡ Some y → x ≡ y
some_same h = cc

and_false : (b : Bool) → (b && false) ≡ false
and_false true = refl
and_false false = refl

and_second : (p q : Option ℕ) → apply_both And p q ≡ Some 1 → (y : ℕ) × (q ≡ Some (suc y))
and_second None q h = cc
and_second (Some zero) q h = absurd (zero_one (some_same h))
and_second (Some (suc x)) None h = cc
and_second (Some (suc x)) (Some zero) h =
    absurd (zero_one (sym (ap word_of (and_false (nat_lt 0 (suc x)))) ∙ some_same h))
and_second (Some (suc x)) (Some (suc y)) h = (y, refl)

and_ones : (p q : Option ℕ) → p ≡ Some 1 → q ≡ Some 1 → apply_both And p q ≡ Some 1
and_ones p q h g = ap (λ x. apply_both And x q) h ∙ ap (apply_both And (Some 1)) g

and_zero : (p q : Option ℕ) → p ≡ Some 0 → apply_both And p q ≡ Some 0
and_zero p q h = ap (λ x. apply_both And x q) h

equal_ones : (v : ℕ) (p q : Option ℕ) → p ≡ Some v → q ≡ Some v → apply_both Equal p q ≡ Some 1
equal_ones v p q h g =
    ap (λ x. apply_both Equal x q) h ∙ ap (apply_both Equal (Some v)) g ∙ ap (λ b. Some (word_of b)) (number_same v)

-- facts that give others
pub gives_where : (fs gs : List Fact) (e : KExpr) {hs : List Fact} → WhereNot fs e gs → Gives gs hs → WhereNot fs e hs
gives_where fs gs e h g = record { at = λ s v words all is. g.at s (h.at s v words all is) }

pub gives_zero : (fs gs : List Fact) (e : KExpr) {hs : List Fact} → WhereZero fs e gs → Gives gs hs → WhereZero fs e hs
gives_zero fs gs e h g = record { at = λ s words all is. g.at s (h.at s words all is) }

pub gives_of : (fs gs hs : List Fact) → gs ≡ fs → Gives gs hs → Gives fs hs
gives_of fs gs hs is h = subst (λ xs. Gives xs hs) is h

pub gives_behind : (fs gs hs new : List Fact) → Gives fs gs → Gives fs hs → new ≡ gs ++ hs → Gives fs new
gives_behind fs gs hs new g h is = record {
  at = λ s all. subst (λ xs. AllHold xs s) (sym is) (both_hold gs hs s (g.at s all) (h.at s all));
}

pub gives_told : (fs gs new : List Fact) (f : Fact) (test : KExpr) (n : ℕ) → Gives fs gs → Gives fs (f ∷ [])
    → Gives fs (is_value test n ∷ []) → Tells f test n gs new → Gives fs new
gives_told fs gs new f test n h g t told =
    record { at = λ s all. told.at s (g.at s all).0 (t.at s all).0.same (h.at s all) }

-- facts that are gone through, where a test is a number
pub yield_added : (z : Fact) (ys gs new : List Fact) (f : Fact) → Gives (z ∷ ys) gs → Gives (f ∷ gs) new → Gives (z ∷ (ys ++ f ∷ [])) new
yield_added z ys gs new f h added = record {
  at = λ s all.
      let both = hold_apart ys (f ∷ []) s all.1 in
      added.at s (both.1.0, h.at s (all.0, both.0));
}

pub yield_joined : (test : KExpr) (ys gs new others : List Fact) (f : Fact) → Gives (is_value test 1 ∷ ys) gs → Joins f test others gs new
    → Gives (is_value test 1 ∷ (ys ++ f ∷ [])) new
yield_joined test ys gs new others f h j = record {
  at = λ s all.
      let both = hold_apart ys (f ∷ []) s all.1 in
      j.there s both.1.0 all.0 (h.at s (all.0, both.0));
}

pub other_added : (z : Fact) (fs gs new : List Fact) (f : Fact) → Gives (z ∷ fs) gs → Gives fs (f ∷ []) → Gives (f ∷ gs) new
    → Gives (z ∷ fs) new
other_added z fs gs new f h g added = record { at = λ s all. added.at s ((g.at s all.1).0, h.at s all) }

pub other_joined : (test : KExpr) (fs gs new : List Fact) (f : Fact) → Gives (is_value test 0 ∷ fs) gs → Joins f test fs gs new
    → Gives (is_value test 0 ∷ fs) new
other_joined test fs gs new f h j = record { at = λ s all. j.otherwise s all.1 all.0 (h.at s all) }

pub gives_with : (fs gs : List Fact) (z : Fact) → Gives fs (z ∷ []) → Gives (z ∷ fs) gs → Gives fs gs
gives_with fs gs z h g = record { at = λ s all. g.at s ((h.at s all).0, all) }

module _ {A : Type 0} where
  pub gives_added : (r : Result A AllocError) (fs new : List Fact) (f : Fact) → OnOk r (new ≡ fs ++ f ∷ []) → OnOk r (Gives (f ∷ fs) new)
  gives_added (Ok done) fs new f is = record { at = λ s all. pushed_all fs new f s is all.1 all.0 }
  gives_added (Err why) fs new f is = tt

  pub same_pushed : (r : Result A AllocError) (fs new : List Fact) (a b : KExpr) (f : Fact) → OnOk r (new ≡ fs ++ f ∷ []) → f.left ≡ a
      → f.right ≡ b → Mentions AnyVariable IsReadOnly a → Mentions AnyVariable IsReadOnly b → OnOk r (WhereSame a b fs new)
  same_pushed (Ok done) fs new a b f is l r m n =
      record { at = λ s same all. pushed_all fs new f s is all (holds_as f a b s l r same m n) }
  same_pushed (Err why) fs new a b f is l r m n = tt

  pub sides_same : (r : Result A AllocError) (fs new : List Fact) (t a b : KExpr) → t ≡ Bin Equal a b → OnOk r (WhereSame a b fs new)
      → OnOk r (Sides t fs new)
  sides_same (Ok done) fs new t a b is h = record {
    at = λ s v at all.
        h.at s (equal_values (value a s) (value b s) v (sym (value_bin Equal a b s) ∙ ap (λ e. value e s) (sym is) ∙ at)) all;
  }
  sides_same (Err why) fs new t a b is h = tt

  pub flag_told : (r : Result A AllocError) (fs new : List Fact) (f g : Fact) (test : KExpr) (x n : ℕ) → OnOk r (new ≡ fs ++ g ∷ [])
      → f.left ≡ Var x → f.right ≡ test → g.left ≡ Var x → g.right ≡ Num n → OnOk r (Tells f test n fs new)
  flag_told (Ok done) fs new f g test x n is l r gl gr = record {
    at = λ s h at all.
        pushed_all fs new g s is all
        (holds_as g (Var x) (Num n) s gl gr
        (ap (λ e. value e s) (sym l) ∙ h.same ∙ ap (λ e. value e s) r ∙ at) tt tt);
  }
  flag_told (Err why) fs new f g test x n is l r gl gr = tt

  pub sides_told : (r : Result A AllocError) (fs new : List Fact) (f : Fact) (test a t : KExpr) (n : ℕ) → OnOk r (Sides t fs new)
      → f.left ≡ Bin And a t → f.right ≡ test → n ≡ 1 → OnOk r (Tells f test n fs new)
  sides_told (Ok done) fs new f test a t n sides l r one = record {
    at = λ s h at all.
        let bin = sym (value_bin And a t s) ∙ ap (λ e. value e s) (sym l) ∙ h.same ∙ ap (λ e. value e s) r ∙ at ∙ ap Some one in
        let second = and_second (value a s) (value t s) bin in
        sides.at s second.0 second.1 all;
  }
  sides_told (Err why) fs new f test a t n sides l r one = tt

  pub fact_joined : (r : Result A AllocError) (fs new others : List Fact) (f : Fact) (e test : KExpr) → f.left ≡ e → f.right ≡ Num 1
      → OnOk r (Joins (is_value e 1) test others fs new) → OnOk r (Joins f test others fs new)
  fact_joined (Ok done) fs new others f e test l one j = record {
    there = λ s h t all.
        j.there s
        (record {
          same = ap (λ x. value x s) (sym l) ∙ h.same ∙ ap (λ x. value x s) one;
          left = subst (Mentions AnyVariable IsReadOnly) l h.left;
          right = tt;
        })
        t all;
    otherwise = j.otherwise;
  }
  fact_joined (Err why) fs new others f e test l one j = tt

  pub flag_joined : (r : Result A AllocError) (fs new others : List Fact) (e test : KExpr) (f : Fact) → OnOk r (new ≡ fs ++ f ∷ [])
      → f.left ≡ e → f.right ≡ test → Gives others (is_value e 0 ∷ []) → OnOk r (Joins (is_value e 1) test others fs new)
  flag_joined (Ok done) fs new others e test f is l r none = record {
    there = λ s one t all. pushed_all fs new f s is all (holds_as f e test s l r (one.same ∙ sym t.same) one.left t.left);
    otherwise = λ s known off all.
        let at = (none.at s known).0 in
        pushed_all fs new f s is all (holds_as f e test s l r (at.same ∙ sym off.same) at.left off.left);
  }
  flag_joined (Err why) fs new others e test f is l r none = tt

  pub guard_joined : (r : Result A AllocError) (fs new others : List Fact) (e test : KExpr) (f : Fact) → OnOk r (new ≡ fs ++ f ∷ [])
      → f.left ≡ Bin And test e → f.right ≡ test → Mentions AnyVariable IsReadOnly e → OnOk r (Joins (is_value e 1) test others fs new)
  guard_joined (Ok done) fs new others e test f is l r m = record {
    there = λ s one t all.
        pushed_all fs new f s is all
        (holds_as f (Bin And test e) test s l r
        (value_bin And test e s ∙ and_ones (value test s) (value e s) t.same one.same ∙ sym t.same)
        (mentions_bin AnyVariable IsReadOnly And test e t.left m) t.left);
    otherwise = λ s known off all.
        pushed_all fs new f s is all
        (holds_as f (Bin And test e) test s l r
        (value_bin And test e s ∙ and_zero (value test s) (value e s) off.same ∙ sym off.same)
        (mentions_bin AnyVariable IsReadOnly And test e off.left m) off.left);
  }
  guard_joined (Err why) fs new others e test f is l r m = tt

-- a variable that was given an expression's value equals it
pub equality_holds : (x v : ℕ) (e d : KExpr) (f : Fact) (s : State) → Mentions (λ y. x ≢ y) IsReadOnly e → value e s ≡ Some v
    → f.left ≡ Bin Equal (Var x) d → d ≡ e → f.right ≡ Num 1 → Holds f (set_var s x v)
equality_holds x v e d f s m is l same r =
    holds_as f (Bin Equal (Var x) e) (Num 1) (set_var s x v) (l ∙ ap (Bin Equal (Var x)) same) r
    (value_bin Equal (Var x) e (set_var s x v)
    ∙ equal_ones v (value (Var x) (set_var s x v)) (value e (set_var s x v)) (this_var s x v) (value_after_set x v e s m ∙ is))
    (mentions_bin AnyVariable IsReadOnly Equal (Var x) e tt (any_mentioned x e m)) tt
