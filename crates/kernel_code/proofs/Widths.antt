-- Lemmas about what specs/Widths.antt defines.
use Rattle.std.specs.Prelude.{◌≡◌, ◌⊎◌, ℕ, zero, suc, ◌*◌, ◌/◌, ◌^◌, ◌<◌, ◌≤◌, max, Bool, true, false, nat_le, if◌then◌else◌, Some, None}
use Rattle.std.specs.Prelude.{refl}
use Rattle.std.proofs.Common.{◌∙◌, sym, ap, subst, arith, inl, inr, lit<, lit≤}
use Rattle.std.proofs.Math.Nat.{pow-le-pow_right, two-pow-succ}
use Rattle.std.proofs.lemmas.Nat.{pow_pos}
use Rattle.std.proofs.lemmas.Bool.Decides.{nat_tests}
use Rattle.std.specs.Int.{IsPowerOfTwo}
use Rattle.kernel_code.specs.Meaning.{least_exponent, width}
use Rattle.kernel_code.specs.Widths.{slot_width}
use Rattle.lists.proofs.Tests.{test_within, test_beyond}

one_of : (b : Bool) (e n : ℕ) → e ≤ n → (if b then e else suc n) ≤ suc n
one_of true e n h = omega arith
one_of false e n h = omega arith

least_exponent_small : (x n : ℕ) → least_exponent x n ≤ n
least_exponent_small x zero = omega arith
least_exponent_small x (suc n) = one_of (nat_le x (2 ^ least_exponent x n)) (least_exponent x n) n (least_exponent_small x n)

-- no smaller exponent is enough
abbrev IsLeast : ℕ → ℕ → Type 0
IsLeast x zero = Unit {0}
IsLeast x (suc j) = 2 ^ j < x

below_or_at : (k n : ℕ) → k ≤ suc n → (k ≤ n) ⊎ (k ≡ suc n)
below_or_at k n h = grind arith

least_exponent_last : (x k n : ℕ) → IsLeast x k → k ≡ suc n → least_exponent x (suc n) ≡ k
least_exponent_last x k n l is =
    let more : 2 ^ n < x = subst (IsLeast x) is l in
    let few : 2 ^ least_exponent x n ≤ 2 ^ n = pow-le-pow_right (lit< tt) (least_exponent_small x n) in
    ap (λ t. if t then least_exponent x n else suc n) (test_beyond x (2 ^ least_exponent x n) (omega arith)) ∙ sym is

least_exponent_is : (x k n : ℕ) → x ≤ 2 ^ k → IsLeast x k → k ≤ n → least_exponent x n ≡ k
least_exponent_is x k zero h l b = omega arith
least_exponent_is x k (suc n) h l b = elim (below_or_at k n b) [
  | inl le ↦ let e = least_exponent_is x k n h l le in
      ap (λ t. if t then least_exponent x n else suc n) (test_within x (2 ^ least_exponent x n) (subst (λ j. x ≤ 2 ^ j) (sym e) h)) ∙ e
  | inr is ↦ least_exponent_last x k n l is
]

half_power : (j p : ℕ) → p ≡ 2 ^ suc j → p / 2 ≡ 2 ^ j
half_power j p h = omega (arith, two-pow-succ j)

is_least : (x k p : ℕ) → p ≡ 2 ^ k → p / 2 < max 1 x → IsLeast x k
is_least x zero p h l = tt
is_least x (suc j) p h l = above x (2 ^ j) (subst (λ q. q < max 1 x) (half_power j p h) l) (pow_pos j)
  where
    above : (x q : ℕ) → q < max 1 x → 0 < q → q < x
    above x q l h = grind (arith, nat_tests)

small_exponent : (x k : ℕ) → x ≤ 2 ^ 62 → IsLeast x k → k ≤ 62
small_exponent x zero h l = omega arith
small_exponent x (suc j) h l =
    elim (below_or_not j) [ inl le ↦ le | inr ge ↦ absurd (let wide : 2 ^ 62 ≤ 2 ^ j = pow-le-pow_right (lit< tt) ge in omega arith) ]
  where
    below_or_not : (j : ℕ) → (suc j ≤ 62) ⊎ (62 ≤ j)
    below_or_not j = grind arith

-- the power of two that code computes
pub slot_width_is : (x p : ℕ) → x ≤ 2 ^ 62 → IsPowerOfTwo p → x ≤ p → p / 2 < max 1 x → 2 * p ≡ slot_width x
unfolding slot_width
slot_width_is x p h power above below =
    let k = power.0 in
    let least = is_least x k p power.1 below in
    let e : least_exponent x 62 ≡ k = least_exponent_is x k 62 (subst (λ q. x ≤ q) power.1 above) least (small_exponent x k h least) in
    sym (ap (λ j. 2 * 2 ^ j) e ∙ ap (λ q. 2 * q) (sym power.1))

-- what the kernel language computes
pub width_is_slot_width : (x : ℕ) → x ≤ 2 ^ 62 → width x ≡ Some (slot_width x)
unfolding width slot_width
width_is_slot_width x h = ap (λ t. if t then Some (2 * 2 ^ least_exponent x 62) else None) (test_within x (2 ^ 62) h)

pub width_is : (x p : ℕ) → x ≤ 2 ^ 62 → IsPowerOfTwo p → x ≤ p → p / 2 < max 1 x → Some (2 * p) ≡ width x
width_is x p h power above below = ap Some (slot_width_is x p h power above below) ∙ sym (width_is_slot_width x h)

pub width_none : (x : ℕ) → 2 ^ 62 < x → None ≡ width x
unfolding width
width_none x h = sym (ap (λ t. if t then Some (2 * 2 ^ least_exponent x 62) else None) (test_beyond x (2 ^ 62) h))

pub slot_width_power : (x : ℕ) → (k : ℕ) × (slot_width x ≡ 2 ^ k)
unfolding slot_width
slot_width_power x = (suc (least_exponent x 62), omega (arith, two-pow-succ (least_exponent x 62)))

pub slot_width_wide : (x : ℕ) → 2 ≤ slot_width x
unfolding slot_width
slot_width_wide x = omega (arith, pow_pos (least_exponent x 62))

exponent_enough : (x n : ℕ) → x ≤ 2 ^ n → x ≤ 2 ^ least_exponent x n
exponent_enough x zero h = h
exponent_enough x (suc n) h = by_test (nat_le x (2 ^ least_exponent x n)) refl
  where
    by_test : (b : Bool) → nat_le x (2 ^ least_exponent x n) ≡ b → x ≤ 2 ^ (if b then least_exponent x n else suc n)
    by_test true is = grind (arith, nat_tests, is)
    by_test false is = h

pub slot_width_enough : (x : ℕ) → x ≤ 2 ^ 62 → 2 * x ≤ slot_width x
unfolding slot_width
slot_width_enough x h = omega (arith, exponent_enough x 62 h)

-- two coordinates have four slots
pub slot_width_two : slot_width 2 ≡ 4
slot_width_two = sym (slot_width_is 2 2 (lit≤ tt) (1, refl) (omega arith) (lit< tt))

within_or_beyond : (k n : ℕ) → (k ≤ n) ⊎ (suc n ≤ k)
within_or_beyond k n = grind arith

least_exponent_least : (x k n : ℕ) → x ≤ 2 ^ k → least_exponent x n ≤ k
least_exponent_least x k zero h = omega arith
least_exponent_least x k (suc n) h = elim (within_or_beyond k n) [
  | inl le ↦ by_test le (least_exponent_least x k n h) (nat_le x (2 ^ least_exponent x n)) refl
  | inr more ↦ let few = least_exponent_small x (suc n) in omega (arith, few, more)
]
  where
    by_test : k ≤ n → least_exponent x n ≤ k → (b : Bool) → nat_le x (2 ^ least_exponent x n) ≡ b
        → (if b then least_exponent x n else suc n) ≤ k
    by_test le few true is = few
    by_test le few false is =
        let wide : 2 ^ k ≤ 2 ^ n = pow-le-pow_right (lit< tt) le in
        let enough = exponent_enough x n (omega (arith, h, wide)) in
        absurd (true_is_false (sym (test_within x (2 ^ least_exponent x n) enough) ∙ is))
      where
        true_is_false : true ≡ false → ⊥
        true_is_false h = cc

-- no width is more than twice a power of two that is enough
pub slot_width_small : (x k : ℕ) → x ≤ 2 ^ k → slot_width x ≤ 2 * 2 ^ k
unfolding slot_width
slot_width_small x k h =
    let few : 2 ^ least_exponent x 62 ≤ 2 ^ k = pow-le-pow_right (lit< tt) (least_exponent_least x k 62 h) in
    omega (arith, few)
