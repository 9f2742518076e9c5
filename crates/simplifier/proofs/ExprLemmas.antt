-- Lemmas about expressions: what numbers among the operands settle, every state settles alike.
use Rattle.std.specs.Prelude.{◌≡◌, ℕ, zero, suc, min, Option, Some, None, refl}
use Rattle.std.specs.Prelude.{Result, Ok, Err, IfOk}
use Rattle.std.specs.declared.alloc.AllocError.{AllocError}
use Rattle.std.specs.Prelude.{◌==◌, true}
use Rattle.std.proofs.lemmas.Bool.Decides.{nat_tests}
use Rattle.std.proofs.Common.{arith, ◌∙◌, ap, sym, subst}
use Rattle.kernel_code.specs.declared.syntax.Arr.{Arr}
use Rattle.kernel_code.specs.declared.syntax.Op.{Op}
use Rattle.kernel_code.specs.declared.syntax.Op.TheVariants.{Add, Sub, Mul, BitAnd, Less, Equal, NotEqual, And, Or}
use Rattle.kernel_code.specs.declared.syntax.KExpr.{KExpr, Num, Var, At', Len, Bin', Min', Width', At, Bin, Min, Width}
use Rattle.kernel_code.specs.Meaning.{State, value, apply_each, apply_both, width_of, word_at}
use Rattle.kernel_code.proofs.Equations.{value_at, value_bin, value_min, value_width}
use Rattle.simplifier.specs.Folded.{number_of, is_zero}
use Rattle.simplifier.specs.Same.{SameValue}

pub number_is : (e : KExpr) (n : ℕ) → number_of e ≡ Some n → (s : State) → value e s ≡ Some n
number_is (Num m) n h s = h
number_is (Var x) n h s = cc
number_is (At' a p i) n h s = cc
number_is (Len a) n h s = cc
number_is (Bin' o p a q b) n h s = cc
number_is (Min' p a q b) n h s = cc
number_is (Width' p e) n h s = cc

none_first : (o : Op) (y : Option ℕ) → apply_both o None y ≡ None
none_first Add y = refl
none_first Sub y = refl
none_first Mul y = refl
none_first BitAnd y = refl
none_first Less y = refl
none_first Equal y = refl
none_first NotEqual y = refl
none_first And y = refl
none_first Or y = refl

-- what the first operand alone settles, whatever the second is
first_settles : (o : Op) (k n : ℕ) (y : Option ℕ) → apply_both o (Some k) None ≡ Some n → apply_both o (Some k) y ≡ Some n
first_settles Add k n y h = cc
first_settles Sub k n y h = cc
first_settles Mul k n y h = cc
first_settles BitAnd k n y h = cc
first_settles Less k n y h = cc
first_settles Equal k n y h = cc
first_settles NotEqual k n y h = cc
first_settles And zero n y h = h
first_settles And (suc k) n y h = cc
first_settles Or zero n y h = cc
first_settles Or (suc k) n y h = h

-- an operand that is known has its value
abbrev Known : Option ℕ → Option ℕ → Type 0
Known x u = (k : ℕ) → x ≡ Some k → u ≡ Some k

both_settle : (o : Op) (x y u v : Option ℕ) (n : ℕ) → Known x u → Known y v → apply_both o x y ≡ Some n → apply_both o u v ≡ Some n
both_settle o None y u v n f g h = let none = none_first o y in cc
both_settle o (Some k) None u v n f g h = ap (λ u. apply_both o u v) (f k refl) ∙ first_settles o k n v h
both_settle o (Some k) (Some l) u v n f g h =
    ap (λ u. apply_both o u v) (f k refl) ∙ ap (apply_both o (Some k)) (g l refl) ∙ h

each_settle : (f : ℕ → ℕ → ℕ) (x y u v : Option ℕ) (n : ℕ) → Known x u → Known y v → apply_each f x y ≡ Some n → apply_each f u v ≡ Some n
each_settle f None y u v n g k h = cc
each_settle f (Some i) None u v n g k h = cc
each_settle f (Some i) (Some l) u v n g k h = ap (λ u. apply_each f u v) (g i refl) ∙ ap (apply_each f (Some i)) (k l refl) ∙ h

width_settles : (x u : Option ℕ) (n : ℕ) → Known x u → width_of x ≡ Some n → width_of u ≡ Some n
width_settles None u n f h = cc
width_settles (Some k) u n f h = ap width_of (f k refl) ∙ h

known : (e : KExpr) (s : State) → Known (number_of e) (value e s)
known e s k h = number_is e k h s

pub same_number_bin : (o : Op) (a b : KExpr) (n : ℕ) → apply_both o (number_of a) (number_of b) ≡ Some n → SameValue (Num n) (Bin o a b)
same_number_bin o a b n h = record {
  at = λ s. sym (value_bin o a b s ∙ both_settle o (number_of a) (number_of b) (value a s) (value b s) n (known a s) (known b s) h);
}

pub same_number_min : (a b : KExpr) (n : ℕ) → apply_each min (number_of a) (number_of b) ≡ Some n → SameValue (Num n) (Min a b)
same_number_min a b n h = record {
  at = λ s. sym (value_min a b s ∙ each_settle min (number_of a) (number_of b) (value a s) (value b s) n (known a s) (known b s) h);
}

pub same_number_width : (e : KExpr) (n : ℕ) → width_of (number_of e) ≡ Some n → SameValue (Num n) (Width e)
same_number_width e n h = record { at = λ s. sym (value_width e s ∙ width_settles (number_of e) (value e s) n (known e s) h) }

pub same_value : (e : KExpr) → SameValue e e
same_value e = record { at = λ s. refl }

pub same_then : (e f g : KExpr) → SameValue e f → SameValue f g → SameValue e g
same_then e f g h k = record { at = λ s. h.at s ∙ k.at s }

pub same_at : (a : Arr) (i j : KExpr) → SameValue i j → SameValue (At a i) (At a j)
same_at a i j h = record { at = λ s. value_at a i s ∙ ap (word_at (s.arrays a)) (h.at s) ∙ sym (value_at a j s) }

pub same_bin : (o : Op) (a b c d : KExpr) → SameValue a c → SameValue b d → SameValue (Bin o a b) (Bin o c d)
same_bin o a b c d h k = record {
  at = λ s. value_bin o a b s ∙ ap (λ v. apply_both o v (value b s)) (h.at s) ∙ ap (apply_both o (value c s)) (k.at s)
      ∙ sym (value_bin o c d s);
}

pub same_min : (a b c d : KExpr) → SameValue a c → SameValue b d → SameValue (Min a b) (Min c d)
same_min a b c d h k = record {
  at = λ s. value_min a b s ∙ ap (λ v. apply_each min v (value b s)) (h.at s) ∙ ap (apply_each min (value c s)) (k.at s)
      ∙ sym (value_min c d s);
}

pub same_width : (e f : KExpr) → SameValue e f → SameValue (Width e) (Width f)
same_width e f h = record { at = λ s. value_width e s ∙ ap width_of (h.at s) ∙ sym (value_width f s) }

-- an expression that is another
pub same_now : (e f g : KExpr) → SameValue e f → f ≡ g → SameValue e g
same_now e f g h is = record { at = λ s. h.at s ∙ ap (λ x. value x s) is }

-- what code found of the operands
pub found_both : (f : Option ℕ → Option ℕ → Option ℕ) (a b : KExpr) (x y r : Option ℕ) → r ≡ f x y → x ≡ number_of a → y ≡ number_of b
    → f (number_of a) (number_of b) ≡ r
found_both f a b x y r h g k = sym (h ∙ ap (λ x. f x y) g ∙ ap (f (number_of a)) k)

pub found : (f : Option ℕ → Option ℕ) (e : KExpr) (x r : Option ℕ) → r ≡ f x → x ≡ number_of e → f (number_of e) ≡ r
found f e x r h g = sym (h ∙ ap f g)

-- what is said of an expression is said of one that was built as it
pub built : (r : Result KExpr AllocError) (e : KExpr) (P : KExpr → Type 0) → IfOk r (λ x. x ≡ e) → P e → IfOk r P
built (Ok x) e P h p = subst P (sym h) p
built (Err x) e P h p = tt

pub same_result : (r : Result KExpr AllocError) (e f : KExpr) → IfOk r (λ x. SameValue x e) → SameValue e f → IfOk r (λ x. SameValue x f)
same_result (Ok x) e f h g = same_then x e f h g
same_result (Err x) e f h g = tt

zero_number : (n : ℕ) → (n == 0) ≡ true → Some n ≡ Some 0
zero_number n h = let is : n ≡ 0 = grind (arith, nat_tests, h) in ap Some is

pub zero_is : (e : KExpr) → is_zero e ≡ true → number_of e ≡ Some 0
zero_is (Num n) h = zero_number n h
zero_is (Var x) h = cc
zero_is (At' a p i) h = cc
zero_is (Len a) h = cc
zero_is (Bin' o p a q b) h = cc
zero_is (Min' p a q b) h = cc
zero_is (Width' p e) h = cc
