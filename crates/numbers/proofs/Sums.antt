-- Lemmas about what specs/Sums.antt defines.
use Rattle.std.specs.Prelude.{◌≡◌, ℕ, zero, suc, ◌<◌, ◌^◌, List, [], ◌∷◌, ◌++◌, refl}
use Rattle.std.proofs.Common.{◌∙◌, sym, ap, arith}
use Rattle.numbers.specs.Arithmetic.{Arithmetic, Laws}
use Rattle.numbers.specs.Sums.{total_of, sum_below}

-- sums of words are words
pub total_fits : (a : Arithmetic) → Laws a → (xs : List ℕ) → total_of a xs < 2 ^ 64
total_fits a laws [] = laws.zero_fits
total_fits a laws (x ∷ xs) = laws.plus_fits x (total_of a xs)

pub sum_fits : (a : Arithmetic) → Laws a → (n : ℕ) (f : ℕ → ℕ) → sum_below a n f < 2 ^ 64
sum_fits a laws zero f = laws.zero_fits
sum_fits a laws (suc n) f = laws.plus_fits (f n) (sum_below a n f)

-- zero before a word
pub zero_before : (a : Arithmetic) → Laws a → (x : ℕ) → x < 2 ^ 64 → a.plus a.zero x ≡ x
zero_before a laws x h = laws.plus_comm a.zero x ∙ laws.plus_zero x h

-- the sum of two lists, one after the other
pub total_append : (a : Arithmetic) → Laws a → (xs ys : List ℕ) → total_of a (xs ++ ys) ≡ a.plus (total_of a xs) (total_of a ys)
total_append a laws [] ys = sym (zero_before a laws (total_of a ys) (total_fits a laws ys))
total_append a laws (x ∷ xs) ys = ap (a.plus x) (total_append a laws xs ys) ∙ sym (laws.plus_assoc x (total_of a xs) (total_of a ys))

-- four values in two pairs
pub plus_pairs : (a : Arithmetic) → Laws a → (w x y z : ℕ) → a.plus (a.plus w x) (a.plus y z) ≡ a.plus (a.plus w y) (a.plus x z)
plus_pairs a laws w x y z =
    laws.plus_assoc w x (a.plus y z)
    ∙ ap (a.plus w) (sym (laws.plus_assoc x y z) ∙ ap (λ n. a.plus n z) (laws.plus_comm x y) ∙ laws.plus_assoc y x z)
    ∙ sym (laws.plus_assoc w y (a.plus x z))

-- the first two of three change places
pub plus_swap : (a : Arithmetic) → Laws a → (x y z : ℕ) → a.plus x (a.plus y z) ≡ a.plus y (a.plus x z)
plus_swap a laws x y z = sym (laws.plus_assoc x y z) ∙ ap (λ n. a.plus n z) (laws.plus_comm x y) ∙ laws.plus_assoc y x z

-- equal terms give equal sums
pub sum_same : (a : Arithmetic) (n : ℕ) (f g : ℕ → ℕ) → ((i : ℕ) → i < n → f i ≡ g i) → sum_below a n f ≡ sum_below a n g
sum_same a zero f g same = refl
sum_same a (suc n) f g same =
    ap (λ x. a.plus x (sum_below a n f)) (same n (omega arith)) ∙ ap (a.plus (g n)) (sum_same a n f g (λ i h. same i (omega arith)))

-- a sum of zeros
pub sum_zeros : (a : Arithmetic) → Laws a → (n : ℕ) → sum_below a n (λ i. a.zero) ≡ a.zero
sum_zeros a laws zero = refl
sum_zeros a laws (suc n) = ap (a.plus a.zero) (sum_zeros a laws n) ∙ laws.plus_zero a.zero laws.zero_fits

-- a sum of sums
pub sum_plus : (a : Arithmetic) → Laws a → (n : ℕ) (f g : ℕ → ℕ)
    → sum_below a n (λ i. a.plus (f i) (g i)) ≡ a.plus (sum_below a n f) (sum_below a n g)
sum_plus a laws zero f g = sym (laws.plus_zero a.zero laws.zero_fits)
sum_plus a laws (suc n) f g =
    ap (a.plus (a.plus (f n) (g n))) (sum_plus a laws n f g) ∙ plus_pairs a laws (f n) (g n) (sum_below a n f) (sum_below a n g)

-- a factor goes into a sum
pub sum_times : (a : Arithmetic) → Laws a → (x n : ℕ) (f : ℕ → ℕ) → a.times x (sum_below a n f) ≡ sum_below a n (λ i. a.times x (f i))
sum_times a laws x zero f = laws.times_zero x
sum_times a laws x (suc n) f = laws.distributes x (f n) (sum_below a n f) ∙ ap (a.plus (a.times x (f n))) (sum_times a laws x n f)

-- sums over two ranges change places
pub sums_swap : (a : Arithmetic) → Laws a → (m n : ℕ) (f : ℕ → ℕ → ℕ)
    → sum_below a m (λ i. sum_below a n (f i)) ≡ sum_below a n (λ j. sum_below a m (λ i. f i j))
sums_swap a laws zero n f = sym (sum_zeros a laws n)
sums_swap a laws (suc m) n f =
    ap (a.plus (sum_below a n (f m))) (sums_swap a laws m n f)
    ∙ sym (sum_plus a laws n (f m) (λ j. sum_below a m (λ i. f i j)))
