-- Lemmas about facts.
use Rattle.std.specs.Prelude.{◌≡◌, ◌≢◌, ℕ, zero, suc, ◌+◌, ◌<◌, Bool, true, false, not, List, [], ◌∷◌, ◌++◌, Some, length, refl}
use Rattle.std.specs.Prelude.{Result, Ok, Err, OnOk}
use Rattle.std.specs.declared.alloc.AllocError.{AllocError}
use Rattle.std.proofs.Common.{◌∙◌, ap, sym, subst, take, get_or, arith}
use Rattle.std.proofs.lemmas.List.{take_more}
use Rattle.kernel_code.specs.declared.syntax.Arr.{Arr}
use Rattle.kernel_code.specs.declared.syntax.Arr.TheVariants.{Range}
use Rattle.kernel_code.specs.declared.syntax.KExpr.{KExpr, Var}
use Rattle.kernel_code.specs.Keeps.{Mentions}
use Rattle.kernel_code.specs.Meaning.{State, value, set_var}
use Rattle.kernel_code.proofs.Keeps.{mentions_more, value_kept, this_var, other_var}
use Rattle.kernel_flow.specs.declared.facts.Fact.{Fact}
use Rattle.kernel_flow.specs.Facts.{Holds, AllHold, Known, Gives, Survives, AfterSet}
use Rattle.kernel_flow.specs.Steady.{AnyVariable, IsReadOnly, HasWords}

abbrev right_of : Fact → KExpr
right_of f = f.right

-- what a fact is written as, of one that is equal to it
pub same_right : (f g : Fact) → f ≡ g → f.right ≡ g.right
same_right f g is = ap right_of is

-- facts one behind another
pub both_hold : (fs gs : List Fact) (s : State) → AllHold fs s → AllHold gs s → AllHold (fs ++ gs) s
both_hold [] gs s h g = g
both_hold (f ∷ fs) gs s h g = (h.0, both_hold fs gs s h.1 g)

pub one_holds : (f : Fact) (s : State) → Holds f s → AllHold (f ∷ []) s
one_holds f s h = (h, tt)

pub one_more : (fs : List Fact) (f : Fact) (s : State) → AllHold fs s → Holds f s → AllHold (fs ++ f ∷ []) s
one_more fs f s h g = both_hold fs (f ∷ []) s h (g, tt)

-- a fact that stands at a place
pub at_place : (fs : List Fact) (i : ℕ) (f : Fact) (s : State) → i < length fs → f ≡ get_or fs i f → AllHold fs s → Holds f s
at_place [] i f s l is h = absurd (omega arith)
at_place (g ∷ fs) zero f s l is h = subst (λ x. Holds x s) (sym is) h.0
at_place (g ∷ fs) (suc i) f s l is h = at_place fs i f s (omega arith) is h.1

pub take_next : (fs : List Fact) (i : ℕ) (f : Fact) (s : State) → i < length fs → f ≡ get_or fs i f → AllHold (take i fs) s → Holds f s
    → AllHold (take (i + 1) fs) s
take_next fs i f s l is h g =
    subst (λ xs. AllHold xs s) (sym (take_more fs i f l)) (one_more (take i fs) (get_or fs i f) s h (subst (λ x. Holds x s) is g))

pub hold_apart : (fs gs : List Fact) (s : State) → AllHold (fs ++ gs) s → AllHold fs s × AllHold gs s
hold_apart [] gs s h = (tt, h)
hold_apart (f ∷ fs) gs s h = let rest = hold_apart fs gs s h.1 in ((h.0, rest.0), rest.1)

pub same_fact : (f g : Fact) (s : State) → g.left ≡ f.left → g.right ≡ f.right → Holds g s → Holds f s
same_fact f g s l r h = record {
  same = ap (λ e. value e s) (sym l) ∙ h.same ∙ ap (λ e. value e s) r;
  left = subst (Mentions AnyVariable IsReadOnly) l h.left;
  right = subst (Mentions AnyVariable IsReadOnly) r h.right;
}

pub gives_one : (fs : List Fact) (f g : Fact) (i : ℕ) → i < length fs → g ≡ get_or fs i g → g.left ≡ f.left → g.right ≡ f.right
    → Gives fs (f ∷ [])
gives_one fs f g i l is left right = record { at = λ s h. (same_fact f g s left right (at_place fs i g s l is h), tt) }

pub gives_more : (fs gs : List Fact) (i : ℕ) (g : Fact) → i < length gs → g ≡ get_or gs i g → Gives fs (take i gs) → Gives fs (g ∷ [])
    → Gives fs (take (i + 1) gs)
gives_more fs gs i g l is h k = record { at = λ s all. take_next gs i g s l is (h.at s all) (k.at s all).0 }

pub gives_same : (fs : List Fact) → Gives fs fs
gives_same fs = record { at = λ s h. h }

pub gives_then : (fs gs hs : List Fact) → Gives fs gs → Gives gs hs → Gives fs hs
gives_then fs gs hs h g = record { at = λ s all. g.at s (h.at s all) }

pub gives_none : (fs : List Fact) → Gives fs []
gives_none fs = record { at = λ s h. tt }

pub gives_pushed : (fs gs new : List Fact) (f : Fact) → Gives fs gs → Gives fs (f ∷ []) → new ≡ gs ++ f ∷ [] → Gives fs new
gives_pushed fs gs new f h g is = record { at = λ s all. subst (λ xs. AllHold xs s) (sym is) (one_more gs f s (h.at s all) (g.at s all).0) }

pub gives_place : (fs : List Fact) (f : Fact) (i : ℕ) → i < length fs → f ≡ get_or fs i f → Gives fs (f ∷ [])
gives_place fs f i l is = gives_one fs f f i l is refl refl

-- a fact that doesn't mention what has changed
pub survives_one : (x : ℕ) (f : Fact) (s s' : State) → ((y : ℕ) → x ≢ y → s'.vars y ≡ s.vars y)
    → ((a : Arr) → IsReadOnly a → s'.arrays a ≡ s.arrays a) → Mentions (λ y. x ≢ y) IsReadOnly f.left
    → Mentions (λ y. x ≢ y) IsReadOnly f.right → Holds f s → Holds f s'
survives_one x f s s' vars arrays left right h = record {
  same = value_kept (λ y. x ≢ y) IsReadOnly f.left s s' left vars arrays ∙ h.same
      ∙ sym (value_kept (λ y. x ≢ y) IsReadOnly f.right s s' right vars arrays);
  left = h.left;
  right = h.right;
}

pub survive_none : (x : ℕ) (fs : List Fact) → Survives x fs []
survive_none x fs = record { at = λ s s' vars arrays h. tt }

-- one more fact that is passed, and is dropped or kept
pub survive_skip : (x : ℕ) (fs gs new : List Fact) (f : Fact) → Survives x fs gs → new ≡ gs → Survives x (fs ++ f ∷ []) new
survive_skip x fs gs new f h now = record {
  at = λ s s' vars arrays all.
      subst (λ xs. AllHold xs s') (sym now) (h.at s s' vars arrays (hold_apart fs (f ∷ []) s all).0);
}

pub survive_more : (x : ℕ) (fs gs new : List Fact) (f : Fact) → Survives x fs gs → Mentions (λ y. x ≢ y) IsReadOnly f.left
    → Mentions (λ y. x ≢ y) IsReadOnly f.right → new ≡ gs ++ f ∷ [] → Survives x (fs ++ f ∷ []) new
survive_more x fs gs new f h left right now = record {
  at = λ s s' vars arrays all.
      let both = hold_apart fs (f ∷ []) s all in
      subst (λ xs. AllHold xs s') (sym now)
      (one_more gs f s' (h.at s s' vars arrays both.0) (survives_one x f s s' vars arrays left right both.1.0));
}

-- one more of the first facts, which are all kept
pub survives_next : (x : ℕ) (fs : List Fact) (i : ℕ) (f : Fact) → i < length fs → f ≡ get_or fs i f → Survives x (take i fs) (take i fs)
    → Mentions (λ y. x ≢ y) IsReadOnly f.left → Mentions (λ y. x ≢ y) IsReadOnly f.right
    → Survives x (take (i + 1) fs) (take (i + 1) fs)
survives_next x fs i f l is h left right =
    subst (λ xs. Survives x xs xs) (sym (take_more fs i f l ∙ ap (λ g. take i fs ++ g ∷ []) (sym is)))
    (survive_more x (take i fs) (take i fs) (take i fs ++ f ∷ []) f h left right refl)

-- one more fact that is passed, and is dropped or kept
pub yielded_skip : (fs gs new : List Fact) (f : Fact) → Gives fs gs → new ≡ gs → Gives (fs ++ f ∷ []) new
yielded_skip fs gs new f h now =
    record { at = λ s all. subst (λ xs. AllHold xs s) (sym now) (h.at s (hold_apart fs (f ∷ []) s all).0) }

pub yielded_more : (fs gs new : List Fact) (f : Fact) → Gives fs gs → new ≡ gs ++ f ∷ [] → Gives (fs ++ f ∷ []) new
yielded_more fs gs new f h now = record {
  at = λ s all.
      let both = hold_apart fs (f ∷ []) s all in
      subst (λ xs. AllHold xs s) (sym now) (one_more gs f s (h.at s both.0) both.1.0);
}

pub gives_now : (fs gs new : List Fact) → Gives fs gs → new ≡ gs → Gives fs new
gives_now fs gs new h is = subst (Gives fs) (sym is) h

pub gives_pushed_copy : (fs gs new : List Fact) (f g : Fact) {after : List Fact} → Gives fs gs → Gives fs (f ∷ []) → g ≡ f
    → after ≡ gs ++ g ∷ [] → new ≡ after → Gives fs new
gives_pushed_copy fs gs new f g h one same pushed now =
    gives_pushed fs gs new f h one (now ∙ pushed ∙ ap (λ x. gs ++ x ∷ []) same)

pub stood : (b : Bool) → not b ≡ false → b ≡ true
stood true h = refl
stood false h = cc

-- all facts hold where nothing that they mention has changed
pub kept_where : (fs : List Fact) (s s' : State) → ((y : ℕ) → s'.vars y ≡ s.vars y) → ((a : Arr) → IsReadOnly a → s'.arrays a ≡ s.arrays a)
    → AllHold fs s → AllHold fs s'
kept_where [] s s' vars arrays h = tt
kept_where (f ∷ fs) s s' vars arrays h = (
  record {
    same = value_kept AnyVariable IsReadOnly f.left s s' h.0.left (λ y m. vars y) arrays ∙ h.0.same
        ∙ sym (value_kept AnyVariable IsReadOnly f.right s s' h.0.right (λ y m. vars y) arrays);
    left = h.0.left;
    right = h.0.right;
  },
  kept_where fs s s' vars arrays h.1,
)

pub words_kept : (s s' : State) → ((a : Arr) → IsReadOnly a → s'.arrays a ≡ s.arrays a) → HasWords s → HasWords s'
words_kept s s' arrays h = record { words = λ xs i v is at. h.words xs i v (sym (arrays Range refl) ∙ is) at }

pub known_kept : (fs : List Fact) (s s' : State) → ((y : ℕ) → s'.vars y ≡ s.vars y) → ((a : Arr) → IsReadOnly a → s'.arrays a ≡ s.arrays a)
    → Known fs s → Known fs s'
known_kept fs s s' vars arrays h = record { words = words_kept s s' arrays h.words; all = kept_where fs s s' vars arrays h.all }

-- any mention of other variables is one of some
pub any_mentioned : (x : ℕ) (e : KExpr) → Mentions (λ y. x ≢ y) IsReadOnly e → Mentions AnyVariable IsReadOnly e
any_mentioned x e h = mentions_more (λ y. x ≢ y) AnyVariable IsReadOnly IsReadOnly e (λ y m. tt) (λ a m. m) h

-- an expression that doesn't mention a variable keeps its value while that is set
pub value_after_set : (x v : ℕ) (e : KExpr) (s : State) → Mentions (λ y. x ≢ y) IsReadOnly e → value e (set_var s x v) ≡ value e s
value_after_set x v e s h = value_kept (λ y. x ≢ y) IsReadOnly e s (set_var s x v) h (λ y m. other_var s x y v m) (λ a m. refl)

pub copy_holds : (x v : ℕ) (e : KExpr) (f : Fact) (s : State) → Mentions (λ y. x ≢ y) IsReadOnly e → value e s ≡ Some v → f.left ≡ Var x
    → f.right ≡ e → Holds f (set_var s x v)
copy_holds x v e f s m is l r = record {
  same = ap (λ y. value y (set_var s x v)) l ∙ this_var s x v ∙ sym (ap (λ y. value y (set_var s x v)) r ∙ value_after_set x v e s m ∙ is);
  left = subst (Mentions AnyVariable IsReadOnly) (sym l) tt;
  right = subst (Mentions AnyVariable IsReadOnly) (sym r) (any_mentioned x e m);
}

pub back_holds : (x v : ℕ) (e : KExpr) (f : Fact) (s : State) → Mentions (λ y. x ≢ y) IsReadOnly e → value e s ≡ Some v → f.left ≡ e
    → f.right ≡ Var x → Holds f (set_var s x v)
back_holds x v e f s m is l r = record {
  same = ap (λ y. value y (set_var s x v)) l ∙ value_after_set x v e s m ∙ is ∙ sym (ap (λ y. value y (set_var s x v)) r ∙ this_var s x v);
  left = subst (Mentions AnyVariable IsReadOnly) (sym l) (any_mentioned x e m);
  right = subst (Mentions AnyVariable IsReadOnly) (sym r) tt;
}

pub after_none : (fs : List Fact) (x : ℕ) (e : KExpr) → AfterSet fs x e fs
after_none fs x e = record { at = λ s v is h. h }

pub after_then : (fs gs hs : List Fact) (x : ℕ) (e : KExpr) → AfterSet fs x e gs → AfterSet gs x e hs → AfterSet fs x e hs
after_then fs gs hs x e h g = record { at = λ s v is all. g.at s v is (h.at s v is all) }

pub after_pushed : (fs new : List Fact) (x : ℕ) (e : KExpr) (f : Fact)
    → ((s : State) (v : ℕ) → value e s ≡ Some v → Holds f (set_var s x v)) → new ≡ fs ++ f ∷ [] → AfterSet fs x e new
after_pushed fs new x e f h now = record {
  at = λ s v is all. subst (λ xs. AllHold xs (set_var s x v)) (sym now) (one_more fs f (set_var s x v) all (h s v is));
}

module _ {A : Type 0} where
  pub pushed_after : (r : Result A AllocError) (fs new : List Fact) (x : ℕ) (e : KExpr) (f : Fact) → OnOk r (new ≡ fs ++ f ∷ [])
      → ((s : State) (v : ℕ) → value e s ≡ Some v → Holds f (set_var s x v)) → OnOk r (AfterSet fs x e new)
  pushed_after (Ok done) fs new x e f now h = after_pushed fs new x e f h now
  pushed_after (Err why) fs new x e f now h = tt
