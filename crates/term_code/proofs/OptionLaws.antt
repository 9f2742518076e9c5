-- What the code of values that may be absent does.
use Rattle.std.specs.Prelude.{◌≡◌, ℕ, suc, ◌+◌, ◌≤◌, Bool, true, false, List, [], ◌∷◌, ◌++◌, Option, Some, None, slice_get, refl}
use Rattle.std.proofs.Common.{◌∙◌, sym, ap, subst, arith}
use Rattle.numbers.specs.Arithmetic.{Arithmetic}
use Rattle.kernel_code.specs.declared.syntax.Arr.{Arr}
use Rattle.kernel_code.specs.declared.syntax.Arr.TheVariants.{Values}
use Rattle.kernel_code.specs.declared.syntax.ValueOp.TheVariants.{Plus, Times}
use Rattle.kernel_code.specs.declared.syntax.KExpr.{KExpr, Num, Var, At}
use Rattle.kernel_code.specs.declared.syntax.KStmt.{KStmt, Set, If}
use Rattle.kernel_code.specs.Meaning.{Setting, State, value, set_var}
use Rattle.kernel_code.specs.Does.{Never}
use Rattle.kernel_code.proofs.Does.{does_append, does_set, does_combine, does_nothing, does_if_yes, does_if_no, does_weaker}
use Rattle.kernel_code.specs.Keeps.{Leaves, NoVariable, EveryArray, no_turns}
use Rattle.kernel_code.proofs.Keeps.{this_var, other_var}
use Rattle.kernel_code.proofs.Words.{word_is}
use Rattle.level_core.specs.declared.span.Span.{Span}
use Rattle.level_core.specs.Fragments.{Reads, OptionLeft}
use Rattle.level_cursors.specs.Children.{ChildLeft}
use Rattle.index_notation.specs.declared.operator.Operator.{Operator}
use Rattle.index_notation.specs.declared.operator.Operator.TheVariants as op
use Rattle.expr_terms.specs.Value.{minus}
use Rattle.loop_code.specs.Loops.{Env, Stored, word_of}
use Rattle.loop_code.specs.PresentValues.{both, either, each, present_applied}
use Rattle.term_code.specs.Places.{Places, AccessPlace, AreBelow, Keeps, HasValueOf, HasValues}
use Rattle.term_code.specs.Options.{LeavesOption}
use Rattle.term_code.specs.OptionCodes.{number_code, access_code, either_code, both_code, each_code, value_at}
use Rattle.term_code.specs.OptionCodes.{applied_code}
use Rattle.term_code.proofs.PlaceLaws.{keeps_kept, values_kept}

option_kept : (free : ℕ) (o : Option ℕ) (s t : State) → t.vars free ≡ s.vars free → t.vars (free + 1) ≡ s.vars (free + 1)
    → OptionLeft free o s → OptionLeft free o t
option_kept free None s t f g h = f ∙ h
option_kept free (Some x) s t f g h = (f ∙ h.0, g ∙ h.1)

-- nothing changes, or one variable from free on
pub nothing_read : (c : Setting) (free : ℕ) (s : State) (P : State → Type 0) → P s → Reads c [] free no_turns s P
nothing_read c free s P p =
    does_nothing c s _ Never (record { below = λ y b z. refl; arrays = λ b z. refl; turns = λ j. omega arith }, p)

one_set : (free x v : ℕ) (s : State) → free ≤ x → Leaves NoVariable EveryArray free no_turns s (set_var s x v)
one_set free x v s l = record {
  below = λ y b z. other_var s x y v (λ q. omega (arith, l, b, q));
  arrays = λ b z. refl;
  turns = λ j. omega arith;
}

set_read : (c : Setting) (free x v : ℕ) (e : KExpr) (s : State) (P : State → Type 0) → free ≤ x → value e s ≡ Some v
    → P (set_var s x v) → Reads c (Set x e ∷ []) free no_turns s P
set_read c free x v e s P l h p = does_set c x e [] s v _ Never h (does_nothing c (set_var s x v) _ Never (one_set free x v s l, p))

pub if_read : (c : Setting) (free x n : ℕ) (first second : List KStmt) (s : State) (P : State → Type 0) → s.vars x ≡ Some (suc n)
    → Reads c first free no_turns s P → Reads c (If (Var x) first second ∷ []) free no_turns s P
if_read c free x n first second s P h d = does_if_yes c (Var x) first second [] s n _ _ Never h d (λ t k. does_nothing c t _ Never k)

pub else_read : (c : Setting) (free x : ℕ) (first second : List KStmt) (s : State) (P : State → Type 0) → s.vars x ≡ Some 0
    → Reads c second free no_turns s P → Reads c (If (Var x) first second ∷ []) free no_turns s P
else_read c free x first second s P h d = does_if_no c (Var x) first second [] s _ _ Never h d (λ t k. does_nothing c t _ Never k)

-- one after another
then_reads : (c : Setting) (first second : List KStmt) (free more : ℕ) (s : State) (P Q : State → Type 0) → free ≤ more
    → Reads c first free no_turns s P
    → ((t : State) → Leaves NoVariable EveryArray free no_turns s t → P t → Reads c second more no_turns t Q)
    → Reads c (first ++ second) free no_turns s Q
then_reads c first second free more s P Q le d next =
    does_append c first second s _ _ Never d (λ t h. does_weaker c second t _ _ Never Never (next t h.0 h.1) (λ u k. (
      record {
        below = λ y b z. k.0.below y (omega (arith, b, le)) z ∙ h.0.below y b z;
        arrays = λ b z. k.0.arrays b z ∙ h.0.arrays b z;
        turns = λ j. let x = h.0.turns j in let y = k.0.turns j in omega (arith, x, y);
      },
      k.1,
    )) (λ t b n z. z))

-- 1 and a value
two_set : (c : Setting) (free v : ℕ) (e : KExpr) (s : State) → value e (set_var s free 1) ≡ Some v
    → Reads c (Set free (Num 1) ∷ Set (free + 1) e ∷ []) free no_turns s (OptionLeft free (Some v))
two_set c free v e s h =
    let t = set_var s free 1 in
    does_set c free (Num 1) _ s 1 _ Never refl
    (does_set c (free + 1) e [] t v _ Never h
    (does_nothing c (set_var t (free + 1) v) _ Never (
      record {
        below = λ y b z. other_var t (free + 1) y v (λ q. omega (arith, b, q)) ∙ other_var s free y 1 (λ q. omega (arith, b, q));
        arrays = λ b z. refl;
        turns = λ j. omega arith;
      },
      (other_var t (free + 1) free v (λ q. omega (arith, q)) ∙ this_var s free 1, this_var t (free + 1) v),
    )))

pub each_does : (c : Setting) (free : ℕ) (x : Option ℕ) (s : State) → OptionLeft free x s
    → Reads c (each_code c.arithmetic.minus_one free) free no_turns s (OptionLeft free (each (minus c.arithmetic) x))
each_does c free None s h = else_read c free free _ [] s (OptionLeft free None) h (nothing_read c free s (OptionLeft free None) h)
each_does c free (Some x) s h =
    let v = minus c.arithmetic x in
    if_read c free free 0 _ [] s _ h.0
    (does_combine c (free + 1) Times (Num c.arithmetic.minus_one) (Var (free + 1)) [] s c.arithmetic.minus_one x _ Never refl h.1
    (does_nothing c (set_var s (free + 1) v) _ Never (
      one_set free (free + 1) v s (omega arith),
      (other_var s (free + 1) free v (λ q. omega (arith, q)) ∙ h.0, this_var s (free + 1) v),
    )))

both_does : (c : Setting) (free : ℕ) (x y : Option ℕ) (s : State)
    → OptionLeft free x s → OptionLeft (free + 2) y s
    → Reads c (both_code free) free no_turns s (OptionLeft free (both c.arithmetic.times x y))
both_does c free None y s h g = else_read c free free _ [] s (OptionLeft free None) h (nothing_read c free s (OptionLeft free None) h)
both_does c free (Some x) None s h g =
    if_read c free free 0 _ [] s (OptionLeft free None) h.0
    (else_read c free (free + 2) _ (Set free (Num 0) ∷ []) s (OptionLeft free None) g
    (set_read c free free 0 (Num 0) s (OptionLeft free None) (omega arith) refl (this_var s free 0)))
both_does c free (Some x) (Some y) s h g =
    let v = c.arithmetic.times x y in
    if_read c free free 0 _ [] s _ h.0
    (if_read c free (free + 2) 0 _ (Set free (Num 0) ∷ []) s _ g.0
    (does_combine c (free + 1) Times (Var (free + 1)) (Var (free + 2 + 1)) [] s x y _ Never h.1 g.1
    (does_nothing c (set_var s (free + 1) v) _ Never (
      one_set free (free + 1) v s (omega arith),
      (other_var s (free + 1) free v (λ q. omega (arith, q)) ∙ h.0, this_var s (free + 1) v),
    ))))

either_does : (c : Setting) (free : ℕ) (x y : Option ℕ) (s : State)
    → OptionLeft free x s → OptionLeft (free + 2) y s
    → Reads c (either_code free) free no_turns s (OptionLeft free (either c.arithmetic.plus x y))
either_does c free None None s h g = else_read c free (free + 2) _ [] s (OptionLeft free None) g
    (nothing_read c free s (OptionLeft free None) h)
either_does c free (Some x) None s h g = else_read c free (free + 2) _ [] s (OptionLeft free (Some x)) g
    (nothing_read c free s (OptionLeft free (Some x)) h)
either_does c free None (Some y) s h g =
    if_read c free (free + 2) 0 _ [] s _ g.0
    (else_read c free free _ _ s _ h
    (two_set c free y (Var (free + 2 + 1)) s (other_var s free (free + 2 + 1) 1 (λ q. omega (arith, q)) ∙ g.1)))
either_does c free (Some x) (Some y) s h g =
    let v = c.arithmetic.plus x y in
    if_read c free (free + 2) 0 _ [] s _ g.0
    (if_read c free free 0 _ _ s _ h.0
    (does_combine c (free + 1) Plus (Var (free + 1)) (Var (free + 2 + 1)) [] s x y _ Never h.1 g.1
    (does_nothing c (set_var s (free + 1) v) _ Never (
      one_set free (free + 1) v s (omega arith),
      (other_var s (free + 1) free v (λ q. omega (arith, q)) ∙ h.0, this_var s (free + 1) v),
    ))))

abbrev Options : Type 0
Options = Stored → Env → Option ℕ

pub number_leaves : (a : Arithmetic) (places : Places) (these : ℕ → Bool) (n free : ℕ)
    → LeavesOption a places these (λ stored env. Some n) free (number_code n free)
number_leaves a places these n free = λ c is stored bound env s keeps has. two_set c free n (Num n) s refl

-- the value at an access's first position
value_is : (stored : Stored) (k : ℕ) (is_sum : Bool) (tensor cursor position : ℕ) (s t : State) → ((b : Arr) → t.arrays b ≡ s.arrays b)
    → t.vars (cursor + 1) ≡ Some position → HasValueOf is_sum stored tensor k position s
    → value (value_at is_sum tensor cursor) t ≡ Some (stored.word k position)
value_is stored k true tensor cursor position s t same lo h = lo ∙ ap Some (sym h)
value_is stored k false tensor cursor position s t same lo h =
    word_is (Values tensor) (Var (cursor + 1)) h.words position (stored.word k position) t (same (Values tensor) ∙ h.held) lo h.is

module _ (a : Arithmetic) (places : Places) (these : ℕ → Bool) (free : ℕ) (are : AreBelow free places) where
  pub access_leaves : (k : ℕ) (p : AccessPlace) → these k ≡ true → slice_get places.accesses k ≡ Some p
      → LeavesOption a places these (λ stored env. word_of (stored.word k) (env.cursor k)) free (access_code p free)
  access_leaves k p of at = λ c is stored bound env s keeps has. by_cursor c stored s (env.cursor k) (keeps.cursors k p at)
      (λ span. has k p span of at)
    where
      low : p.cursor + 3 ≤ free
      low = are.accesses k p at

      by_cursor : (c : Setting) (stored : Stored) (s : State) (o : Option Span) → ChildLeft p.cursor o s
          → ((span : Span) → o ≡ Some span → HasValueOf p.is_sum stored p.tensor k span.lo s)
          → Reads c (access_code p free) free no_turns s (OptionLeft free (word_of (stored.word k) o))
      by_cursor c stored s None left has =
          else_read c free p.cursor _ _ s (OptionLeft free None) left
          (set_read c free free 0 (Num 0) s (OptionLeft free None) (omega arith) refl (this_var s free 0))
      by_cursor c stored s (Some span) left has =
          let v = stored.word k span.lo in
          let t = set_var s free 1 in
          let lo : t.vars (p.cursor + 1) ≡ Some span.lo = other_var s free (p.cursor + 1) 1 (λ q. omega (arith, q, low)) ∙ left.1.lo in
          if_read c free p.cursor 0 _ _ s _ left.0
          (two_set c free v (value_at p.is_sum p.tensor p.cursor) s
          (value_is stored k p.is_sum p.tensor p.cursor span.lo s t (λ b. refl) lo (has span refl)))

  -- the second of two values beside the first one
  beside : (f g : Options) (x y : List KStmt) → LeavesOption a places these f free x → LeavesOption a places these g (free + 2) y
      → (c : Setting) → c.arithmetic ≡ a → (stored : Stored) (bound : List ℕ) (env : Env) (s : State) → Keeps places bound env s
      → HasValues these places stored env s
      → Reads c (x ++ y) free no_turns s (λ t. OptionLeft free (f stored env) t × OptionLeft (free + 2) (g stored env) t)
  beside f g x y h k c is stored bound env s keeps has =
      then_reads c x y free free s _ _ (omega arith) (h c is stored bound env s keeps has)
      (λ t l o. does_weaker c y t _ _ Never Never
      (k c is stored bound env t (keeps_kept free places bound env s t are (λ y b. l.below y b (λ z. z)) keeps)
      (values_kept these places stored env s t (λ b. l.arrays b tt) has))
      (λ u r. (
        record { below = λ y b z. r.0.below y (omega (arith, b)) z; arrays = r.0.arrays; turns = r.0.turns },
        (option_kept free (f stored env) t u (r.0.below free (omega arith) (λ z. z)) (r.0.below (free + 1) (omega arith) (λ z. z)) o, r.1),
      )) (λ t b n z. z))

  pub sum_leaves : (f g : Options) (x y : List KStmt) → LeavesOption a places these f free x
      → LeavesOption a places these g (free + 2) y
      → LeavesOption a places these (λ stored env. either a.plus (f stored env) (g stored env)) free ((x ++ y) ++ either_code free)
  sum_leaves f g x y h k = λ c is stored bound env s keeps has.
      then_reads c (x ++ y) (either_code free) free free s _ _ (omega arith) (beside f g x y h k c is stored bound env s keeps has)
      (λ t l o. subst (λ b. Reads c (either_code free) free no_turns t (OptionLeft free (either b.plus (f stored env) (g stored env)))) is
      (either_does c free (f stored env) (g stored env) t o.0 o.1))

  pub product_leaves : (f g : Options) (x y : List KStmt) → LeavesOption a places these f free x
      → LeavesOption a places these g (free + 2) y
      → LeavesOption a places these (λ stored env. both a.times (f stored env) (g stored env)) free ((x ++ y) ++ both_code free)
  product_leaves f g x y h k = λ c is stored bound env s keeps has.
      then_reads c (x ++ y) (both_code free) free free s _ _ (omega arith) (beside f g x y h k c is stored bound env s keeps has)
      (λ t l o. subst (λ b. Reads c (both_code free) free no_turns t (OptionLeft free (both b.times (f stored env) (g stored env)))) is
      (both_does c free (f stored env) (g stored env) t o.0 o.1))

pub negated_leaves : (a : Arithmetic) (places : Places) (these : ℕ → Bool) (free : ℕ) (f : Options)
    (x : List KStmt)
    → LeavesOption a places these f free x
    → LeavesOption a places these (λ stored env. each (minus a) (f stored env)) free (x ++ each_code a.minus_one free)
negated_leaves a places these free f x h = λ c is stored bound env s keeps has.
    then_reads c x (each_code a.minus_one free) free free s _ _ (omega arith) (h c is stored bound env s keeps has)
    (λ t l o. subst (λ b. Reads c (each_code b.minus_one free) free no_turns t (OptionLeft free (each (minus b) (f stored env)))) is
    (each_does c free (f stored env) t o))

pub applied_leaves : (a : Arithmetic) (places : Places) (these : ℕ → Bool) (free : ℕ)
    → AreBelow free places → (o : Operator)
    (f g : Options) (x y : List KStmt) → LeavesOption a places these f free x → LeavesOption a places these g (free + 2) y
    → LeavesOption a places these (λ stored env. present_applied a o (f stored env) (g stored env)) free
    (applied_code a.minus_one o x y free)
applied_leaves a places these free are op.Add f g x y h k = sum_leaves a places these free are f g x y h k
applied_leaves a places these free are op.Sub f g x y h k =
    sum_leaves a places these free are f (λ stored env. each (minus a) (g stored env)) x
    (y ++ each_code a.minus_one (free + 2)) h
    (negated_leaves a places these (free + 2) g y k)
applied_leaves a places these free are op.Mul f g x y h k = product_leaves a places these free are f g x y h k

pub leaves_same : (a : Arithmetic) (places : Places) (these : ℕ → Bool) (free : ℕ) (f g : Options) (x : List KStmt)
    → ((stored : Stored) (env : Env) → f stored env ≡ g stored env)
    → LeavesOption a places these f free x → LeavesOption a places these g free x
leaves_same a places these free f g x same h = λ c is stored bound env s keeps has.
    subst (λ o. Reads c x free no_turns s (OptionLeft free o)) (same stored env) (h c is stored bound env s keeps has)
