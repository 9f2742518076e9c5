-- The values of expressions whose parts have theirs: words read, sums, products and differences that are words, and tests.
use Rattle.std.specs.Prelude.{◌≡◌, ℕ, ◌+◌, ◌-◌, ◌*◌, ◌%◌, ◌^◌, ◌≤◌, ◌<◌, nat_lt, true, false, List, Some, slice_get}
use Rattle.std.proofs.Common.{◌∙◌, ap, arith}
use Rattle.std.proofs.lemmas.Bool.Decides.{nat_tests}
use Rattle.numbers.specs.Ring.{word_difference}
use Rattle.numbers.proofs.WordLaws.{word_sum_is, word_product_is}
use Rattle.kernel_code.specs.declared.syntax.Arr.{Arr}
use Rattle.kernel_code.specs.declared.syntax.Op.{Op}
use Rattle.kernel_code.specs.declared.syntax.Op.TheVariants.{Add, Sub, Mul, Less}
use Rattle.kernel_code.specs.declared.syntax.KExpr.{KExpr, At, Bin}
use Rattle.kernel_code.specs.Meaning.{State, value, word_at, word_of, apply_both}
use Rattle.kernel_code.proofs.Equations.{value_at, value_bin}

-- a word read
pub word_is : (a : Arr) (i : KExpr) (xs : List ℕ) (n v : ℕ) (s : State) → s.arrays a ≡ Some xs → value i s ≡ Some n
    → slice_get xs n ≡ Some v → value (At a i) s ≡ Some v
word_is a i xs n v s h g k = value_at a i s ∙ ap (λ ys. word_at ys (value i s)) h ∙ ap (word_at (Some xs)) g ∙ k

-- an operator of two words that are there
pub binary_is : (o : Op) (e f : KExpr) (x y : ℕ) (s : State) → value e s ≡ Some x → value f s ≡ Some y
    → value (Bin o e f) s ≡ apply_both o (Some x) (Some y)
binary_is o e f x y s h g = value_bin o e f s ∙ ap (λ v. apply_both o v (value f s)) h ∙ ap (apply_both o (Some x)) g

-- a difference that isn't below zero
pub word_difference_is : (x y : ℕ) → x < 2 ^ 64 → y ≤ x → word_difference x y ≡ x - y
unfolding word_difference
word_difference_is x y h g = let same : x + (2 ^ 64 - y) ≡ 2 ^ 64 + (x - y) = omega arith in ap (λ n. n % 2 ^ 64) same ∙ grind arith

pub sum_is : (e f : KExpr) (x y : ℕ) (s : State) → value e s ≡ Some x → value f s ≡ Some y → x + y < 2 ^ 64
    → value (Bin Add e f) s ≡ Some (x + y)
sum_is e f x y s h g l = binary_is Add e f x y s h g ∙ ap Some (word_sum_is x y l)

pub product_is : (e f : KExpr) (x y : ℕ) (s : State) → value e s ≡ Some x → value f s ≡ Some y → x * y < 2 ^ 64
    → value (Bin Mul e f) s ≡ Some (x * y)
product_is e f x y s h g l = binary_is Mul e f x y s h g ∙ ap Some (word_product_is x y l)

pub difference_is : (e f : KExpr) (x y : ℕ) (s : State) → value e s ≡ Some x → value f s ≡ Some y → x < 2 ^ 64 → y ≤ x
    → value (Bin Sub e f) s ≡ Some (x - y)
difference_is e f x y s h g l m = binary_is Sub e f x y s h g ∙ ap Some (word_difference_is x y l m)

pub less_is : (e f : KExpr) (x y : ℕ) (s : State) → value e s ≡ Some x → value f s ≡ Some y
    → value (Bin Less e f) s ≡ Some (word_of (nat_lt x y))
less_is e f x y s h g = binary_is Less e f x y s h g

pub less_yes : (e f : KExpr) (x y : ℕ) (s : State) → value e s ≡ Some x → value f s ≡ Some y → x < y → value (Bin Less e f) s ≡ Some 1
less_yes e f x y s h g l = let is : nat_lt x y ≡ true = grind (arith, nat_tests) in less_is e f x y s h g ∙ ap (λ b. Some (word_of b)) is

pub less_no : (e f : KExpr) (x y : ℕ) (s : State) → value e s ≡ Some x → value f s ≡ Some y → y ≤ x → value (Bin Less e f) s ≡ Some 0
less_no e f x y s h g l = let is : nat_lt x y ≡ false = grind (arith, nat_tests) in less_is e f x y s h g ∙ ap (λ b. Some (word_of b)) is
