-- Expressions that tell of parts tell of what is made of them.
use Rattle.std.specs.Prelude.{◌≡◌, ℕ, ◌<◌, Bool, true, false, ◌||◌, ◌&&◌, Option, Some, None, slice_get, refl}
use Rattle.std.proofs.Common.{◌∙◌, ap, arith}
use Rattle.kernel_code.specs.declared.syntax.Op.TheVariants.{And, Or}
use Rattle.kernel_code.specs.declared.syntax.KExpr.{KExpr, Num, Var, Bin}
use Rattle.kernel_code.specs.Meaning.{State, word_of, apply_both}
use Rattle.kernel_code.specs.Keeps.{EveryArray}
use Rattle.kernel_code.proofs.Keeps.{mentions_bin}
use Rattle.kernel_code.proofs.Words.{binary_is}
use Rattle.level_core.specs.declared.span.Span.{Span}
use Rattle.level_cursors.specs.Children.{ChildLeft}
use Rattle.index_notation.specs.declared.operator.Operator.{Operator}
use Rattle.index_notation.specs.declared.operator.Operator.TheVariants as op
use Rattle.index_notation.specs.Operators.{is_there}
use Rattle.loop_code.specs.Loops.{Env}
use Rattle.loop_code.specs.Parts.{is_some}
use Rattle.term_code.specs.Places.{Places, AccessPlace}
use Rattle.term_code.specs.Presence.{Tells, flag_operator}

pub tells_number : (places : Places) (b : Bool) → Tells places (λ env. b) (Num (word_of b))
tells_number places b = record { told = λ bound env s h. refl; below = λ free h. tt }

or_words : (x y : Bool) → apply_both Or (Some (word_of x)) (Some (word_of y)) ≡ Some (word_of (x || y))
or_words true y = refl
or_words false true = refl
or_words false false = refl

and_words : (x y : Bool) → apply_both And (Some (word_of x)) (Some (word_of y)) ≡ Some (word_of (x && y))
and_words false y = refl
and_words true true = refl
and_words true false = refl

pub tells_either : (places : Places) (f g : Env → Bool) (x y : KExpr) → Tells places f x → Tells places g y
    → Tells places (λ env. f env || g env) (Bin Or x y)
tells_either places f g x y h k = record {
  told = λ bound env s at.
      binary_is Or x y (word_of (f env)) (word_of (g env)) s (h.told bound env s at) (k.told bound env s at) ∙ or_words (f env) (g env);
  below = λ free are. mentions_bin (λ v. v < free) EveryArray Or x y (h.below free are) (k.below free are);
}

pub tells_both : (places : Places) (f g : Env → Bool) (x y : KExpr) → Tells places f x → Tells places g y
    → Tells places (λ env. f env && g env) (Bin And x y)
tells_both places f g x y h k = record {
  told = λ bound env s at.
      binary_is And x y (word_of (f env)) (word_of (g env)) s (h.told bound env s at) (k.told bound env s at) ∙ and_words (f env) (g env);
  below = λ free are. mentions_bin (λ v. v < free) EveryArray And x y (h.below free are) (k.below free are);
}

pub tells_there : (places : Places) (o : Operator) (f g : Env → Bool) (x y : KExpr) → Tells places f x → Tells places g y
    → Tells places (λ env. is_there o (f env) (g env)) (Bin (flag_operator o) x y)
tells_there places op.Add f g x y h k = tells_either places f g x y h k
tells_there places op.Sub f g x y h k = tells_either places f g x y h k
tells_there places op.Mul f g x y h k = tells_both places f g x y h k

flag_is : (base : ℕ) (o : Option Span) (s : State) → ChildLeft base o s → s.vars base ≡ Some (word_of (is_some o))
flag_is base None s h = h
flag_is base (Some p) s h = h.0

pub tells_flag : (places : Places) (k : ℕ) (p : AccessPlace) → slice_get places.accesses k ≡ Some p
    → Tells places (λ env. is_some (env.cursor k)) (Var p.cursor)
tells_flag places k p is = record {
  told = λ bound env s h. flag_is p.cursor (env.cursor k) s (h.cursors k p is);
  below = λ free h. let l = h.accesses k p is in omega (arith, l);
}

pub tells_same : (places : Places) (f g : Env → Bool) (e : KExpr) → ((env : Env) → f env ≡ g env) → Tells places f e → Tells places g e
tells_same places f g e same h = record {
  told = λ bound env s at. h.told bound env s at ∙ ap (λ b. Some (word_of b)) (same env);
  below = h.below;
}
