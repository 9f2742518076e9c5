-- What remains of an expression where only some accesses are present, and that the others may be left out.
use Rattle.std.specs.Prelude.{◌≡◌, ℕ, nat_eq, Bool, true, false, ◌||◌, ◌&&◌, if◌then◌else◌, Option, Some, None, refl}
use Rattle.std.proofs.Common.{◌∙◌, sym, ap, arith}
use Rattle.std.proofs.lemmas.Bool.Decides.{nat_tests}
use Rattle.numbers.specs.Arithmetic.{Arithmetic}
use Rattle.index_notation.specs.declared.operator.Operator.{Operator}
use Rattle.index_notation.specs.declared.operator.Operator.TheVariants as op
use Rattle.index_notation.specs.declared.syntax.Expr.{Expr, Num, Access as AccessOf, Binary', Neg', Row_of-Expr, end_of-Expr, more_of-Expr}
use Rattle.index_notation.specs.Operators.{is_there}
use Rattle.expr_terms.specs.Value.{minus}
use Rattle.loop_code.specs.PresentValues.{both, either, each, present_applied, present_value, present_value_in}
use Rattle.loop_code.specs.Parts.{remains, remains_in, is_live, is_live_in, is_full, is_full_in}

pub neither : (a b : Bool) → (a || b) ≡ false → (a ≡ false) × (b ≡ false)
neither true b h = cc
neither false b h = (refl, h)

pub or_left : (a b : Bool) → a ≡ true → (a || b) ≡ true
or_left true b h = refl
or_left false b h = absurd (cc h)

pub or_right : (a b : Bool) → b ≡ true → (a || b) ≡ true
or_right true b h = refl
or_right false b h = h

-- an access that isn't present has no value
abbrev pub Within : (ℕ → Bool) → (ℕ → Option ℕ) → Type 0
Within P values = (k : ℕ) → P k ≡ false → values k ≡ None

module _ (a : Arithmetic) (P : ℕ → Bool) where
  either_none : (x y : Option ℕ) → x ≡ None → y ≡ None → either a.plus x y ≡ None
  either_none x y h g = ap (λ o. either a.plus o y) h ∙ g

  each_none : (x : Option ℕ) → x ≡ None → each (minus a) x ≡ None
  each_none x h = ap (each (minus a)) h

  both_first : (x y : Option ℕ) → x ≡ None → both a.times x y ≡ None
  both_first x y h = ap (λ o. both a.times o y) h

  both_second : (x y : Option ℕ) → y ≡ None → both a.times x y ≡ None
  both_second None y h = refl
  both_second (Some x) y h = ap (both a.times (Some x)) h

  both_not : (b d : Bool) → (b && d) ≡ false → (x y : Option ℕ) → (b ≡ false → x ≡ None) → (d ≡ false → y ≡ None)
      → both a.times x y ≡ None
  both_not true d h x y f g = both_second x y (g h)
  both_not false d h x y f g = both_first x y (f refl)

  applied_none : (o : Operator) (b d : Bool) → is_there o b d ≡ false → (x y : Option ℕ) → (b ≡ false → x ≡ None) → (d ≡ false → y ≡ None)
      → present_applied a o x y ≡ None
  applied_none op.Add b d h x y f g = let t = neither b d h in either_none x y (f t.0) (g t.1)
  applied_none op.Sub b d h x y f g = let t = neither b d h in either_none x (each (minus a) y) (f t.0) (each_none y (g t.1))
  applied_none op.Mul b d h x y f g = both_not b d h x y f g

  mutual
    -- where no part remains there is no value
    pub none_remains : (values : ℕ → Option ℕ) → Within P values → (e : Expr) → remains P e ≡ false → present_value a values e ≡ None
    none_remains values s (Num n) h = absurd (cc h)
    none_remains values s (AccessOf k) h = s k h
    none_remains values s (Binary' o p e q f) h =
        applied_none o (remains_in P e) (remains_in P f) h (present_value_in a values e) (present_value_in a values f)
        (none_remains_in values s e)
        (none_remains_in values s f)
    none_remains values s (Neg' p e) h = each_none (present_value_in a values e) (none_remains_in values s e h)

    none_remains_in : {m : _} (values : ℕ → Option ℕ) → Within P values → (row : Row_of-Expr m) → remains_in P row ≡ false
        → present_value_in a values row ≡ None
    none_remains_in values s end_of-Expr h = refl
    none_remains_in values s (more_of-Expr e rest) h = none_remains values s e h

  -- the values of some accesses alone
  abbrev pub masked : (ℕ → Bool) → (ℕ → Option ℕ) → ℕ → Option ℕ
  masked M values k = if M k then values k else None

  masked_within : (M : ℕ → Bool) (values : ℕ → Option ℕ) → Within P values → Within P (masked M values)
  masked_within M values s k h = elim (M k) as (λ b. (if b then values k else None) ≡ None) [ true ↦ s k h | false ↦ refl ]

  applied_same : (o : Operator) (b : Bool) (x y z w : Option ℕ) → (b ≡ true → x ≡ y) → (b ≡ true → z ≡ w)
      → (b ≡ false → present_applied a o x z ≡ present_applied a o y w) → present_applied a o x z ≡ present_applied a o y w
  applied_same o true x y z w f g h = ap (λ v. present_applied a o v z) (f refl) ∙ ap (present_applied a o y) (g refl)
  applied_same o false x y z w f g h = h refl

  mutual
    -- accesses outside the part that remains may be left out
    pub masked_same : (M : ℕ → Bool) (values : ℕ → Option ℕ) → Within P values → (e : Expr)
        → ((k : ℕ) → is_live P e k ≡ true → M k ≡ true) → present_value a (masked M values) e ≡ present_value a values e
    masked_same M values s (Num n) c = refl
    masked_same M values s (AccessOf k) c = by_present (P k) refl
      where
        same : (k : ℕ) → nat_eq k k ≡ true
        same k = grind (arith, nat_tests)

        by_present : (b : Bool) → P k ≡ b → masked M values k ≡ values k
        by_present true is = ap (λ b. if b then values k else None) (c k (ap (λ b. b && P k) (same k) ∙ is))
        by_present false is = masked_within M values s k is ∙ sym (s k is)
    masked_same M values s (Binary' o p e q f) c =
        applied_same o (is_there o (remains_in P e) (remains_in P f)) (present_value_in a (masked M values) e) (present_value_in a values e)
        (present_value_in a (masked M values) f) (present_value_in a values f)
        (λ is. masked_same_in M values s e (λ k h. c k
        (ap (λ b. b && (is_live_in P e k || is_live_in P f k)) is ∙ or_left (is_live_in P e k) (is_live_in P f k) h)))
        (λ is. masked_same_in M values s f (λ k h. c k
        (ap (λ b. b && (is_live_in P e k || is_live_in P f k)) is ∙ or_right (is_live_in P e k) (is_live_in P f k) h)))
        (λ is. none_remains (masked M values) (masked_within M values s) (Binary' o p e q f) is
        ∙ sym (none_remains values s (Binary' o p e q f) is))
    masked_same M values s (Neg' p e) c = ap (each (minus a)) (masked_same_in M values s e c)

    masked_same_in : {m : _} (M : ℕ → Bool) (values : ℕ → Option ℕ) → Within P values → (row : Row_of-Expr m)
        → ((k : ℕ) → is_live_in P row k ≡ true → M k ≡ true) → present_value_in a (masked M values) row ≡ present_value_in a values row
    masked_same_in M values s end_of-Expr c = refl
    masked_same_in M values s (more_of-Expr e rest) c = masked_same M values s e c

-- where Q has of the accesses that are present those that are full alone, what is left is there exactly where the part is full
module _ (F P Q : ℕ → Bool) (only_full : (k : ℕ) → Q k ≡ (F k && P k)) where
  mutual
    pub full_remains : (e : Expr) → remains Q e ≡ is_full F P e
    full_remains (Num n) = refl
    full_remains (AccessOf k) = only_full k
    full_remains (Binary' o p e q f) =
        ap (λ b. is_there o b (remains_in Q f)) (full_remains_in e) ∙ ap (is_there o (is_full_in F P e)) (full_remains_in f)
    full_remains (Neg' p e) = full_remains_in e

    full_remains_in : {m : _} → (row : Row_of-Expr m) → remains_in Q row ≡ is_full_in F P row
    full_remains_in end_of-Expr = refl
    full_remains_in (more_of-Expr e rest) = full_remains e
