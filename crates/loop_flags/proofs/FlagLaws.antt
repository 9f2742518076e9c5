-- Flags tell of what is made of parts, where numbers among the parts settle it.
use Rattle.std.specs.Prelude.{◌≡◌, ℕ, Bool, true, false, ◌||◌, ◌&&◌, List, Option, Some, Result, Ok, Err, IfOk, refl}
use Rattle.std.proofs.Common.{◌∙◌, sym, ap, subst, arith}
use Rattle.kernel_code.specs.declared.syntax.Op.TheVariants.{And, Or}
use Rattle.kernel_code.specs.declared.syntax.KExpr.{KExpr, Num, Bin}
use Rattle.kernel_code.specs.Meaning.{State, word_of}
use Rattle.index_notation.specs.declared.operator.Operator.{Operator}
use Rattle.index_notation.specs.declared.operator.Operator.TheVariants as op
use Rattle.index_notation.specs.declared.syntax.Expr.{Expr}
use Rattle.index_notation.specs.Operators.{is_product, is_there}
use Rattle.loop_code.specs.Loops.{Env}
use Rattle.loop_code.specs.Parts.{remains}
use Rattle.term_code.specs.declared.places.Places.{Places}
use Rattle.term_code.specs.Places.{Keeps}
use Rattle.term_code.specs.Presence.{Tells}
use Rattle.term_code.proofs.PresenceLaws.{tells_either, tells_both}
use Rattle.loop_flags.specs.Told.{Told}
use Rattle.loop_flags.specs.Flags.{TellsEither, TellsBoth, TellsThere, TellsFactor, TellsSides}

pub if_flag : {E A : Type 0} (r : Result A E) (P Q : A → Type 0) → ((x : A) → P x → Q x) → IfOk r P → IfOk r Q
if_flag (Ok x) P Q f h = f x h
if_flag (Err e) P Q f h = h

-- a flag tells what is the same wherever the places are kept
pub tells_kept : (places : Places) (f g : Env → Bool) (e : KExpr)
    → ((bound : List ℕ) (env : Env) (s : State) → Keeps places bound env s → f env ≡ g env) → Tells places f e → Tells places g e
tells_kept places f g e same h = record {
  told = λ bound env s at. h.told bound env s at ∙ ap (λ b. Some (word_of b)) (same bound env s at);
  below = h.below;
}

zero_never : (b : Bool) → ◌≡◌ {A = Option ℕ} (Some 0) (Some (word_of b)) → b ≡ false
zero_never true h = let e : ◌≡◌ {A = ℕ} 0 1 = cc h in absurd (omega (arith, e))
zero_never false h = refl

one_always : (b : Bool) → ◌≡◌ {A = Option ℕ} (Some 1) (Some (word_of b)) → b ≡ true
one_always true h = refl
one_always false h = let e : ◌≡◌ {A = ℕ} 1 0 = cc h in absurd (omega (arith, e))

-- what 0 tells is never so where the places are kept, and what 1 tells always
pub never_so : (places : Places) (f : Env → Bool) (e : KExpr) → e ≡ Num 0 → Tells places f e → (bound : List ℕ) (env : Env) (s : State)
    → Keeps places bound env s → f env ≡ false
never_so places f e is h bound env s at = zero_never (f env) ((subst (Tells places f) is h).told bound env s at)

always_so : (places : Places) (f : Env → Bool) (e : KExpr) → e ≡ Num 1 → Tells places f e → (bound : List ℕ) (env : Env) (s : State)
    → Keeps places bound env s → f env ≡ true
always_so places f e is h bound env s at = one_always (f env) ((subst (Tells places f) is h).told bound env s at)

or_none : (a b : Bool) → a ≡ false → b ≡ (a || b)
or_none true b h = absurd (cc h)
or_none false b h = refl

or_nothing : (a b : Bool) → b ≡ false → a ≡ (a || b)
or_nothing true b h = refl
or_nothing false b h = sym h

or_all : (a b : Bool) → a ≡ true → a ≡ (a || b)
or_all true b h = refl
or_all false b h = absurd (cc h)

or_each : (a b : Bool) → b ≡ true → b ≡ (a || b)
or_each true b h = h
or_each false b h = refl

and_all : (a b : Bool) → a ≡ true → b ≡ (a && b)
and_all true b h = refl
and_all false b h = absurd (cc h)

and_each : (a b : Bool) → b ≡ true → a ≡ (a && b)
and_each true b h = sym h
and_each false b h = refl

and_none : (a b : Bool) → a ≡ false → a ≡ (a && b)
and_none true b h = absurd (cc h)
and_none false b h = refl

and_nothing : (a b : Bool) → b ≡ false → b ≡ (a && b)
and_nothing true b h = refl
and_nothing false b h = h

module _ (x y : KExpr) where
  pub either_without_first : x ≡ Num 0 → TellsEither x y y
  either_without_first is places f g h k =
      tells_kept places g (λ env. f env || g env) y (λ bound env s at. or_none (f env) (g env) (never_so places f x is h bound env s at)) k

  pub either_without_second : y ≡ Num 0 → TellsEither x y x
  either_without_second is places f g h k =
      tells_kept places f (λ env. f env || g env) x
      (λ bound env s at. or_nothing (f env) (g env) (never_so places g y is k bound env s at)) h

  pub either_by_first : x ≡ Num 1 → TellsEither x y x
  either_by_first is places f g h k =
      tells_kept places f (λ env. f env || g env) x (λ bound env s at. or_all (f env) (g env) (always_so places f x is h bound env s at)) h

  pub either_by_second : y ≡ Num 1 → TellsEither x y y
  either_by_second is places f g h k =
      tells_kept places g (λ env. f env || g env) y (λ bound env s at. or_each (f env) (g env) (always_so places g y is k bound env s at)) k

  pub either_of_two : (flag : KExpr) → flag ≡ Bin Or x y → TellsEither x y flag
  either_of_two flag is places f g h k = subst (Tells places (λ env. f env || g env)) (sym is) (tells_either places f g x y h k)

  pub both_without_first : x ≡ Num 1 → TellsBoth x y y
  both_without_first is places f g h k =
      tells_kept places g (λ env. f env && g env) y (λ bound env s at. and_all (f env) (g env) (always_so places f x is h bound env s at)) k

  pub both_without_second : y ≡ Num 1 → TellsBoth x y x
  both_without_second is places f g h k =
      tells_kept places f (λ env. f env && g env) x
      (λ bound env s at. and_each (f env) (g env) (always_so places g y is k bound env s at)) h

  pub both_by_first : x ≡ Num 0 → TellsBoth x y x
  both_by_first is places f g h k =
      tells_kept places f (λ env. f env && g env) x (λ bound env s at. and_none (f env) (g env) (never_so places f x is h bound env s at)) h

  pub both_by_second : y ≡ Num 0 → TellsBoth x y y
  both_by_second is places f g h k =
      tells_kept places g (λ env. f env && g env) y
      (λ bound env s at. and_nothing (f env) (g env) (never_so places g y is k bound env s at)) k

  pub both_of_two : (flag : KExpr) → flag ≡ Bin And x y → TellsBoth x y flag
  both_of_two flag is places f g h k = subst (Tells places (λ env. f env && g env)) (sym is) (tells_both places f g x y h k)

first_is : (r q a b : Bool) → (a ≡ true → r ≡ true) → b ≡ false → (a && q) ≡ ((r && q) && (a || b))
first_is true true true b is n = refl
first_is true true false b is n = sym n
first_is true false true b is n = refl
first_is true false false b is n = refl
first_is false q true b is n = absurd (cc (is refl))
first_is false q false b is n = refl

second_is : (r q a b : Bool) → (b ≡ true → q ≡ true) → a ≡ false → (b && r) ≡ ((r && q) && (a || b))
second_is r q true b is n = absurd (cc n)
second_is true true false true is n = refl
second_is true true false false is n = refl
second_is true false false true is n = absurd (cc (is refl))
second_is true false false false is n = refl
second_is false q false true is n = refl
second_is false q false false is n = refl

both_are : (r q a b : Bool) → (((a || b) && r) && q) ≡ ((r && q) && (a || b))
both_are true true true b = refl
both_are true true false true = refl
both_are true true false false = refl
both_are true false true b = refl
both_are true false false true = refl
both_are true false false false = refl
both_are false q true b = refl
both_are false q false true = refl
both_are false q false false = refl

either_is : (r q a b : Bool) → (a ≡ true → r ≡ true) → (b ≡ true → q ≡ true) → (a || b) ≡ ((r || q) && (a || b))
either_is true q a b f g = refl
either_is false true a b f g = refl
either_is false false true b f g = absurd (cc (f refl))
either_is false false false true f g = absurd (cc (g refl))
either_is false false false false f g = refl

module _ (places : Places) (told : List Told) (e f : Expr) (x y : KExpr) where
  either_of_sum : (flag : KExpr) → TellsEither x y flag → TellsSides places told op.Add e f x y flag
  either_of_sum flag w P are g h is in_it one two =
      tells_kept places (λ env. g env || h env)
      (λ env. (remains (P env) e || remains (P env) f) && (g env || h env)) flag
      (λ bound env s at. either_is (remains (P env) e) (remains (P env) f) (g env) (h env) (is env) (in_it env))
      (w places g h one two)

  pub either_of_sides : (o : Operator) (flag : KExpr) → is_product o ≡ false → TellsEither x y flag
      → TellsSides places told o e f x y flag
  either_of_sides op.Add flag n w = either_of_sum flag w
  either_of_sides op.Sub flag n w = either_of_sum flag w
  either_of_sides op.Mul flag n w = absurd (cc n)

  pub first_of_product : (flag : KExpr) → y ≡ Num 0 → TellsFactor places told x f flag → TellsSides places told op.Mul e f x y flag
  first_of_product flag zero w P are g h is in_it one none =
      tells_kept places (λ env. g env && remains (P env) f)
      (λ env. (remains (P env) e && remains (P env) f) && (g env || h env)) flag
      (λ bound env s at. first_is (remains (P env) e) (remains (P env) f) (g env) (h env) (is env)
      (never_so places h y zero none bound env s at))
      (w P are g one)

  pub second_of_product : (flag : KExpr) → x ≡ Num 0 → TellsFactor places told y e flag → TellsSides places told op.Mul e f x y flag
  second_of_product flag zero w P are g h is in_it none one =
      tells_kept places (λ env. h env && remains (P env) e)
      (λ env. (remains (P env) e && remains (P env) f) && (g env || h env)) flag
      (λ bound env s at. second_is (remains (P env) e) (remains (P env) f) (g env) (h env) (in_it env)
      (never_so places g x zero none bound env s at))
      (w P are h one)

  pub both_of_product : (one left flag : KExpr) → TellsEither x y one → TellsFactor places told one e left
      → TellsFactor places told left f flag → TellsSides places told op.Mul e f x y flag
  both_of_product one left flag u w v P are g h is in_it in_first in_second =
      tells_kept places (λ env. ((g env || h env) && remains (P env) e) && remains (P env) f)
      (λ env. (remains (P env) e && remains (P env) f) && (g env || h env)) flag
      (λ bound env s at. both_are (remains (P env) e) (remains (P env) f) (g env) (h env))
      (v P are (λ env. (g env || h env) && remains (P env) e)
      (w P are (λ env. g env || h env) (u places g h in_first in_second)))

-- what flags of the parts that were read of a whole tell of the whole
module _ {X : Type 0} (places : Places) (V : X → Env → Bool) where
  pub tells_part : (whole made e e' : X) (x : KExpr) → whole ≡ made → e' ≡ e → ((env : Env) → V made env ≡ V e env)
      → Tells places (V e') x → Tells places (V whole) x
  tells_part whole made e e' x is part same one =
      subst (λ w. Tells places (V w) x) (sym is)
      (tells_kept places (V e) (V made) x (λ bound env s at. sym (same env)) (subst (λ w. Tells places (V w) x) part one))

  pub tells_parts_either : (whole made e f e' f' : X) (x y flag : KExpr) → whole ≡ made → e' ≡ e → f' ≡ f
      → ((env : Env) → V made env ≡ (V e env || V f env)) → Tells places (V e') x → Tells places (V f') y → TellsEither x y flag
      → Tells places (V whole) flag
  tells_parts_either whole made e f e' f' x y flag is first second same one two told =
      subst (λ w. Tells places (V w) flag) (sym is)
      (tells_kept places (λ env. V e env || V f env) (V made) flag (λ bound env s at. sym (same env))
      (told places (V e) (V f) (subst (λ w. Tells places (V w) x) first one) (subst (λ w. Tells places (V w) y) second two)))

  pub tells_parts_there : (o : Operator) (whole made e f e' f' : X) (x y flag : KExpr) → whole ≡ made → e' ≡ e → f' ≡ f
      → ((env : Env) → V made env ≡ is_there o (V e env) (V f env)) → Tells places (V e') x → Tells places (V f') y
      → TellsThere o x y flag → Tells places (V whole) flag
  tells_parts_there o whole made e f e' f' x y flag is first second same one two told =
      subst (λ w. Tells places (V w) flag) (sym is)
      (tells_kept places (λ env. is_there o (V e env) (V f env)) (V made) flag (λ bound env s at. sym (same env))
      (told places (V e) (V f) (subst (λ w. Tells places (V w) x) first one) (subst (λ w. Tells places (V w) y) second two)))
