-- Operators of operands that are there, and what is read of expressions with known values.
use Rattle.std.specs.Prelude.{◌≡◌, ℕ, zero, suc, ◌||◌, min, nat_lt, Option, Some, refl}
use Rattle.std.proofs.Common.{◌∙◌, sym, ap, arith}
use Rattle.kernel_code.specs.declared.syntax.Arr.{Arr}
use Rattle.kernel_code.specs.declared.syntax.KExpr.{KExpr, At, Bin, Min}
use Rattle.kernel_code.specs.declared.syntax.Op.{Op}
use Rattle.kernel_code.specs.declared.syntax.Op.TheVariants as op
use Rattle.kernel_code.specs.Meaning.{State, apply, apply_both, apply_each, value, word_at, word_of}
use Rattle.kernel_code.proofs.Equations.{value_at, value_bin, value_min}
use Rattle.kernel_interpreter.proofs.StoreLemmas.{test_below}

-- where both are there it has its value, also where the first decides
pub both_there : (o : Op) (x y : ℕ) → apply_both o (Some x) (Some y) ≡ Some (apply o x y)
both_there op.And zero y = refl
both_there op.And (suc n) y = refl
both_there op.Or zero y = refl
both_there op.Or (suc n) y = ap (λ b. Some (word_of (b || nat_lt 0 y))) (sym (test_below 0 (suc n) (omega arith)))
both_there _ x y = refl

-- one that counts both, of expressions with these values
pub counts_both : (o : Op) → ((x y : Option ℕ) → apply_both o x y ≡ apply_each (apply o) x y) → (a b e : KExpr) (s : State)
    (x y r : Option ℕ) → r ≡ apply_each (apply o) x y → x ≡ value a s → y ≡ value b s → e ≡ Bin o a b → r ≡ value e s
counts_both o strict a b e s x y r is first second whole =
    is ∙ ap (λ v. apply_each (apply o) v y) first ∙ ap (apply_each (apply o) (value a s)) second
    ∙ sym (ap (λ e. value e s) whole ∙ value_bin o a b s ∙ strict (value a s) (value b s))

pub least_of_both : (a b e : KExpr) (s : State) (x y r : Option ℕ) → r ≡ apply_each min x y → x ≡ value a s → y ≡ value b s → e ≡ Min a b
    → r ≡ value e s
least_of_both a b e s x y r is first second whole =
    is ∙ ap (λ v. apply_each min v y) first ∙ ap (apply_each min (value a s)) second
    ∙ sym (ap (λ e. value e s) whole ∙ value_min a b s)

-- the word of an array at such an index
pub word_there : (a : Arr) (i e : KExpr) (s : State) (x r : Option ℕ) → r ≡ word_at (s.arrays a) x → x ≡ value i s → e ≡ At a i
    → r ≡ value e s
word_there a i e s x r is index whole =
    is ∙ ap (word_at (s.arrays a)) index ∙ sym (ap (λ e. value e s) whole ∙ value_at a i s)
