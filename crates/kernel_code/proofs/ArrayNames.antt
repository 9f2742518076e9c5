-- Names of arrays: which of them are one.
use Rattle.std.specs.Prelude.{◌≡◌, ℕ, true, ◌==◌, ◌&&◌, refl}
use Rattle.std.proofs.Common.{◌∙◌, ap}
use Rattle.kernel_code.specs.declared.syntax.Arr.{Arr}
use Rattle.kernel_code.specs.declared.syntax.Arr.TheVariants.{Range, Values, Dimension, Ends, Coordinates, Width, Key, Sums}
use Rattle.kernel_code.specs.declared.syntax.Arr.TheVariants.{ListCoordinates, ListPositions}
use Rattle.kernel_code.specs.Arrays.{same_arr}
use Rattle.lists.proofs.Tests.{both_true, same_number, number_same}

one_name : (f : ℕ → Arr) (n m : ℕ) → (n == m) ≡ true → f n ≡ f m
one_name f n m h = ap f (same_number n m h)

two_names : (f : ℕ → ℕ → Arr) (n m k l : ℕ) → ((n == m) && (k == l)) ≡ true → f n k ≡ f m l
two_names f n m k l h = let both = both_true (n == m) (k == l) h in ap (λ x. f x k) (same_number n m both.0)
    ∙ ap (f m) (same_number k l both.1)

pub same_arr_is : (a b : Arr) → same_arr a b ≡ true → a ≡ b
same_arr_is Range Range h = refl
same_arr_is (Values n) (Values m) h = one_name Values n m h
same_arr_is (Dimension n k) (Dimension m l) h = two_names Dimension n m k l h
same_arr_is (Ends n k) (Ends m l) h = two_names Ends n m k l h
same_arr_is (Coordinates n k) (Coordinates m l) h = two_names Coordinates n m k l h
same_arr_is (Width n k) (Width m l) h = two_names Width n m k l h
same_arr_is (Key n k) (Key m l) h = two_names Key n m k l h
same_arr_is (Sums n) (Sums m) h = one_name Sums n m h
same_arr_is (ListCoordinates n) (ListCoordinates m) h = one_name ListCoordinates n m h
same_arr_is (ListPositions n) (ListPositions m) h = one_name ListPositions n m h
same_arr_is _ _ h = cc

same_pair : (n k : ℕ) → ((n == n) && (k == k)) ≡ true
same_pair n k = ap (λ b. b && (k == k)) (number_same n) ∙ number_same k

pub same_arr_self : (a : Arr) → same_arr a a ≡ true
same_arr_self Range = refl
same_arr_self (Values n) = number_same n
same_arr_self (Dimension n k) = same_pair n k
same_arr_self (Ends n k) = same_pair n k
same_arr_self (Coordinates n k) = same_pair n k
same_arr_self (Width n k) = same_pair n k
same_arr_self (Key n k) = same_pair n k
same_arr_self (Sums n) = number_same n
same_arr_self (ListCoordinates n) = number_same n
same_arr_self (ListPositions n) = number_same n
