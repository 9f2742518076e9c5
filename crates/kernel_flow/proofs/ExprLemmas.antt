-- Lemmas about expressions: what they are written as where facts hold.
use Rattle.std.specs.Prelude.{◌≡◌, ℕ, zero, suc, ◌+◌, ◌*◌, ◌^◌, ◌<◌, min, Bool, true, false, not, IsTrue, nat_lt, ◌==◌, ◌&&◌, ◌||◌}
use Rattle.std.specs.Prelude.{List, length, slice_get, Option, Some, None, Result, Ok, Err, IfOk, refl}
use Rattle.std.specs.declared.alloc.AllocError.{AllocError}
use Rattle.std.proofs.lemmas.Nat.{mod_below}
use Rattle.std.proofs.Common.{lit<, ◌-◌, ◌∙◌, ap, sym, subst, get_or, arith}
use Rattle.lists.proofs.Tests.{number_same}
use Rattle.numbers.proofs.WordLaws.{word_sum_is, word_product_is}
use Rattle.kernel_code.specs.declared.syntax.Arr.{Arr}
use Rattle.kernel_code.specs.declared.syntax.Arr.TheVariants.{Range}
use Rattle.kernel_code.specs.declared.syntax.Op.{Op}
use Rattle.kernel_code.specs.declared.syntax.Op.TheVariants.{Add, Sub, Mul, BitAnd, Less, Equal, NotEqual, And, Or}
use Rattle.kernel_code.specs.declared.syntax.KExpr.{KExpr, Num, At, Bin, Min}
use Rattle.kernel_code.specs.Keeps.{Mentions}
use Rattle.kernel_code.specs.Meaning.{value, word_at, word_of, apply_each, apply_both}
use Rattle.kernel_code.proofs.Equations.{value_at, value_bin, value_min}
use Rattle.simplifier.specs.Same.{SameValue}
use Rattle.kernel_flow.specs.declared.facts.Fact.{Fact}
use Rattle.kernel_flow.specs.Facts.{Becomes, IsWord, gives_word}
use Rattle.numbers.specs.Ring.{word_sum, word_difference, word_product}
use Rattle.kernel_flow.specs.Steady.{IsReadOnly}
use Rattle.kernel_flow.proofs.FactLemmas.{at_place}

pub from_part : (V : ℕ → Type 0) (e f : KExpr) → e ≡ f → Mentions V IsReadOnly e → Mentions V IsReadOnly f
from_part V e f is h = subst (Mentions V IsReadOnly) is h

pub is_true : (b : Bool) → b ≡ true → IsTrue b
is_true b h = h

sum_fits : (x y : ℕ) → word_sum x y < 2 ^ 64
unfolding word_sum
sum_fits x y = mod_below (x + y) (2 ^ 64) (lit< tt)

difference_fits : (x y : ℕ) → word_difference x y < 2 ^ 64
unfolding word_difference
difference_fits x y = mod_below (x + (2 ^ 64 - y)) (2 ^ 64) (lit< tt)

product_fits : (x y : ℕ) → word_product x y < 2 ^ 64
unfolding word_product
product_fits x y = mod_below (x * y) (2 ^ 64) (lit< tt)

-- what has a value in one place has it in another
abbrev Has : Option ℕ → Option ℕ → Type 0
Has x u = (k : ℕ) → x ≡ Some k → u ≡ Some k

none_first : (o : Op) (y : Option ℕ) → apply_both o None y ≡ None
none_first Add y = refl
none_first Sub y = refl
none_first Mul y = refl
none_first BitAnd y = refl
none_first Less y = refl
none_first Equal y = refl
none_first NotEqual y = refl
none_first And y = refl
none_first Or y = refl

first_settles : (o : Op) (k n : ℕ) (y : Option ℕ) → apply_both o (Some k) None ≡ Some n → apply_both o (Some k) y ≡ Some n
first_settles Add k n y h = cc
first_settles Sub k n y h = cc
first_settles Mul k n y h = cc
first_settles BitAnd k n y h = cc
first_settles Less k n y h = cc
first_settles Equal k n y h = cc
first_settles NotEqual k n y h = cc
first_settles And zero n y h = h
first_settles And (suc k) n y h = cc
first_settles Or zero n y h = cc
first_settles Or (suc k) n y h = h

both_settle : (o : Op) (x y u v : Option ℕ) (n : ℕ) → Has x u → Has y v → apply_both o x y ≡ Some n → apply_both o u v ≡ Some n
both_settle o None y u v n f g h = let none = none_first o y in cc
both_settle o (Some k) None u v n f g h = ap (λ u. apply_both o u v) (f k refl) ∙ first_settles o k n v h
both_settle o (Some k) (Some l) u v n f g h =
    ap (λ u. apply_both o u v) (f k refl) ∙ ap (apply_both o (Some k)) (g l refl) ∙ h

pub each_settle : (f : ℕ → ℕ → ℕ) (x y u v : Option ℕ) (n : ℕ) → Has x u → Has y v → apply_each f x y ≡ Some n → apply_each f u v ≡ Some n
each_settle f None y u v n g k h = cc
each_settle f (Some i) None u v n g k h = cc
each_settle f (Some i) (Some l) u v n g k h = ap (λ u. apply_each f u v) (g i refl) ∙ ap (apply_each f (Some i)) (k l refl) ∙ h

word_settles : (xs : Option (List ℕ)) (x u : Option ℕ) (n : ℕ) → Has x u → word_at xs x ≡ Some n → word_at xs u ≡ Some n
word_settles None x u n f h = cc
word_settles (Some xs) None u n f h = cc
word_settles (Some xs) (Some i) u n f h = ap (word_at (Some xs)) (f i refl) ∙ h

pub becomes_itself : (fs : List Fact) (e : KExpr) → Becomes fs e e
becomes_itself fs e = record { at = λ s v k h. h }

pub becomes_then : (fs : List Fact) (e f g : KExpr) → Becomes fs e f → Becomes fs f g → Becomes fs e g
becomes_then fs e f g h i = record { at = λ s v k is. i.at s v k (h.at s v k is) }

pub becomes_from : (fs : List Fact) (e f g : KExpr) → e ≡ f → Becomes fs f g → Becomes fs e g
becomes_from fs e f g is h = subst (λ x. Becomes fs x g) (sym is) h

pub becomes_now : (fs : List Fact) (e f g : KExpr) → Becomes fs e f → g ≡ f → Becomes fs e g
becomes_now fs e f g h is = subst (Becomes fs e) (sym is) h

pub becomes_same : (fs : List Fact) (e f : KExpr) → SameValue f e → Becomes fs e f
becomes_same fs e f h = record { at = λ s v k is. h.at s ∙ is }

pub becomes_at : (fs : List Fact) (a : Arr) (i j : KExpr) → Becomes fs i j → Becomes fs (At a i) (At a j)
becomes_at fs a i j h = record {
  at = λ s v k is.
      value_at a j s
      ∙ word_settles (s.arrays a) (value i s) (value j s) v (λ n g. h.at s n k g) (sym (value_at a i s) ∙ is);
}

pub becomes_bin : (fs : List Fact) (o : Op) (a b c d : KExpr) → Becomes fs a c → Becomes fs b d → Becomes fs (Bin o a b) (Bin o c d)
becomes_bin fs o a b c d f g = record {
  at = λ s v k is.
      value_bin o c d s
      ∙ both_settle o (value a s) (value b s) (value c s) (value d s) v (λ n h. f.at s n k h) (λ n h. g.at s n k h)
      (sym (value_bin o a b s) ∙ is);
}

pub becomes_min : (fs : List Fact) (a b c d : KExpr) → Becomes fs a c → Becomes fs b d → Becomes fs (Min a b) (Min c d)
becomes_min fs a b c d f g = record {
  at = λ s v k is.
      value_min c d s
      ∙ each_settle min (value a s) (value b s) (value c s) (value d s) v (λ n h. f.at s n k h) (λ n h. g.at s n k h)
      (sym (value_min a b s) ∙ is);
}

pub becomes_place : (fs : List Fact) (i : ℕ) (f : Fact) (e r : KExpr) → i < length fs → f ≡ get_or fs i f → f.left ≡ e → r ≡ f.right
    → Becomes fs e r
becomes_place fs i f e r l is left right = record {
  at = λ s v k h.
      ap (λ x. value x s) right ∙ sym (at_place fs i f s l is k.all).same ∙ ap (λ x. value x s) left ∙ h;
}

-- an operator of one and the same operand
equal_one : (x : Option ℕ) (v : ℕ) → apply_both Equal x x ≡ Some v → Some 1 ≡ Some v
equal_one None v h = cc
equal_one (Some x) v h = ap (λ b. Some (word_of b)) (sym (number_same x)) ∙ h

pub becomes_one : (fs : List Fact) (a b : KExpr) → a ≡ b → Becomes fs (Bin Equal a b) (Num 1)
becomes_one fs a b is = record {
  at = λ s v k h.
      equal_one (value b s) v (ap (λ e. apply_both Equal (value e s) (value b s)) (sym is) ∙ sym (value_bin Equal a b s) ∙ h);
}

product_zero : (y : Option ℕ) (v : ℕ) → apply_both Mul (Some 0) y ≡ Some v → Some 0 ≡ Some v
product_zero None v h = cc
product_zero (Some y) v h = let is : 0 * y ≡ 0 = omega arith in
    let zero_is = word_product_is 0 y (omega arith) in ap Some (sym (zero_is ∙ is)) ∙ h

pub becomes_zero : (fs : List Fact) (a b : KExpr) → a ≡ Num 0 → Becomes fs (Bin Mul a b) (Num 0)
becomes_zero fs a b is = record {
  at = λ s v k h.
      product_zero (value b s) v (ap (λ e. apply_both Mul (value e s) (value b s)) (sym is) ∙ sym (value_bin Mul a b s) ∙ h);
}

sum_second : (y : Option ℕ) (v : ℕ) → ((k : ℕ) → y ≡ Some k → k < 2 ^ 64) → apply_both Add (Some 0) y ≡ Some v → y ≡ Some v
sum_second None v w h = cc
sum_second (Some y) v w h = let small = w y refl in let is : 0 + y ≡ y = omega arith in
    ap Some (sym (word_sum_is 0 y (omega (arith, small)) ∙ is)) ∙ h

-- words
unless_more : (v : ℕ) → Some (min v 18446744073709551615) ≡ Some v → v < 2 ^ 64
unless_more v h = let same : min v 18446744073709551615 ≡ v = cc in omega (arith, same)

pub word_variable : (fs : List Fact) (i : ℕ) (f : Fact) (e : KExpr) → i < length fs → f ≡ get_or fs i f
    → f.left ≡ Min e (Num 18446744073709551615) → f.right ≡ e → IsWord fs e
word_variable fs i f e l is left right = record {
  at = λ s v k h.
      unless_more v
      (ap (λ x. apply_each min x (Some 18446744073709551615)) (sym h) ∙ sym (value_min e (Num 18446744073709551615) s)
      ∙ ap (λ x. value x s) (sym left) ∙ (at_place fs i f s l is k.all).same ∙ ap (λ x. value x s) right ∙ h);
}

read_word : (xs : Option (List ℕ)) (i : Option ℕ) (v : ℕ) → word_at xs i ≡ Some v
    → (ys : List ℕ) × (n : ℕ) × (xs ≡ Some ys) × (slice_get ys n ≡ Some v)
read_word None i v h = cc
read_word (Some xs) None v h = cc
read_word (Some xs) (Some i) v h = (xs, i, refl, h)

pub word_read : (fs : List Fact) (a : Arr) (i : KExpr) → a ≡ Range → IsWord fs (At a i)
word_read fs a i r = record {
  at = λ s v k h.
      let read = read_word (s.arrays a) (value i s) v (sym (value_at a i s) ∙ h) in
      k.words.words read.0 read.1 v (ap s.arrays (sym r) ∙ read.2) read.3;
}

test_word : (b : Bool) (v : ℕ) → Some (word_of b) ≡ Some v → v < 2 ^ 64
test_word true v h = let is : 1 ≡ v = cc in omega (arith, is)
test_word false v h = let is : 0 ≡ v = cc in omega (arith, is)

below_word : (x v : ℕ) → x < 2 ^ 64 → Some x ≡ Some v → v < 2 ^ 64
below_word x v l h = let is : x ≡ v = cc in subst (λ n. n < 2 ^ 64) is l

operator_word : (o : Op) (p q : Option ℕ) (v : ℕ) → gives_word o ≡ true → apply_both o p q ≡ Some v → v < 2 ^ 64
operator_word o None q v w h = let none = none_first o q in cc
operator_word Add (Some x) None v w h = cc
operator_word Add (Some x) (Some y) v w h = below_word (word_sum x y) v (sum_fits x y) h
operator_word Sub (Some x) None v w h = cc
operator_word Sub (Some x) (Some y) v w h = below_word (word_difference x y) v (difference_fits x y) h
operator_word Mul (Some x) None v w h = cc
operator_word Mul (Some x) (Some y) v w h = below_word (word_product x y) v (product_fits x y) h
operator_word BitAnd (Some x) q v w h = cc
operator_word Less (Some x) None v w h = cc
operator_word Less (Some x) (Some y) v w h = test_word (nat_lt x y) v h
operator_word Equal (Some x) None v w h = cc
operator_word Equal (Some x) (Some y) v w h = test_word (x == y) v h
operator_word NotEqual (Some x) None v w h = cc
operator_word NotEqual (Some x) (Some y) v w h = test_word (not (x == y)) v h
operator_word And (Some zero) q v w h = below_word 0 v (omega arith) h
operator_word And (Some (suc x)) None v w h = cc
operator_word And (Some (suc x)) (Some y) v w h = test_word (nat_lt 0 (suc x) && nat_lt 0 y) v h
operator_word Or (Some zero) None v w h = cc
operator_word Or (Some zero) (Some y) v w h = test_word (nat_lt 0 0 || nat_lt 0 y) v h
operator_word Or (Some (suc x)) q v w h = below_word 1 v (omega arith) h

pub word_operator : (fs : List Fact) (o : Op) (a b : KExpr) → gives_word o ≡ true → IsWord fs (Bin o a b)
word_operator fs o a b w = record {
  at = λ s v k h. operator_word o (value a s) (value b s) v w (sym (value_bin o a b s) ∙ h);
}

pub word_number : (fs : List Fact) (n : ℕ) → n < 2 ^ 64 → IsWord fs (Num n)
word_number fs n l = record { at = λ s v k h. below_word n v l h }

pub word_from : (fs : List Fact) (e f : KExpr) → e ≡ f → IsWord fs f → IsWord fs e
word_from fs e f is h = subst (IsWord fs) (sym is) h

pub becomes_second : (fs : List Fact) (a b : KExpr) → a ≡ Num 0 → IsWord fs b → Becomes fs (Bin Add a b) b
becomes_second fs a b is w = record {
  at = λ s v k h.
      sum_second (value b s) v (λ n g. w.at s n k g)
      (ap (λ e. apply_both Add (value e s) (value b s)) (sym is) ∙ sym (value_bin Add a b s) ∙ h);
}

min_first : (x : Option ℕ) (v : ℕ) → ((k : ℕ) → x ≡ Some k → k < 2 ^ 64) → apply_each min x (Some 18446744073709551615) ≡ Some v
    → x ≡ Some v
min_first None v w h = cc
min_first (Some x) v w h = let small = w x refl in
    let is : min x 18446744073709551615 ≡ x = omega (arith, small) in ap Some (sym is) ∙ h

min_second : (x : Option ℕ) (v : ℕ) → ((k : ℕ) → x ≡ Some k → k < 2 ^ 64) → apply_each min (Some 18446744073709551615) x ≡ Some v
    → x ≡ Some v
min_second None v w h = cc
min_second (Some x) v w h = let small = w x refl in
    let is : min 18446744073709551615 x ≡ x = omega (arith, small) in ap Some (sym is) ∙ h

pub least_first : (fs : List Fact) (a b : KExpr) → b ≡ Num 18446744073709551615 → IsWord fs a → Becomes fs (Min a b) a
least_first fs a b is w = record {
  at = λ s v k h.
      min_first (value a s) v (λ n g. w.at s n k g)
      (ap (λ e. apply_each min (value a s) (value e s)) (sym is) ∙ sym (value_min a b s) ∙ h);
}

pub least_second : (fs : List Fact) (a b : KExpr) → a ≡ Num 18446744073709551615 → IsWord fs b → Becomes fs (Min a b) b
least_second fs a b is w = record {
  at = λ s v k h.
      min_second (value b s) v (λ n g. w.at s n k g)
      (ap (λ e. apply_each min (value e s) (value b s)) (sym is) ∙ sym (value_min a b s) ∙ h);
}

least_word : (x y : Option ℕ) (v : ℕ) → apply_each min x y ≡ Some v → ((k : ℕ) → x ≡ Some k → k < 2 ^ 64) → v < 2 ^ 64
least_word None y v h w = cc
least_word (Some x) None v h w = cc
least_word (Some x) (Some y) v h w = let small = w x refl in let is : min x y ≡ v = cc in omega (arith, small, is)

pub word_least : (fs : List Fact) (a b : KExpr) → IsWord fs a → IsWord fs (Min a b)
word_least fs a b w = record {
  at = λ s v k h. least_word (value a s) (value b s) v (sym (value_min a b s) ∙ h) (λ n g. w.at s n k g);
}

module _ {A : Type 0} where
  pub if_ok_more : (r : Result A AllocError) (P Q : A → Type 0) → IfOk r P → ((x : A) → P x → Q x) → IfOk r Q
  if_ok_more (Ok x) P Q h f = f x h
  if_ok_more (Err why) P Q h f = tt
