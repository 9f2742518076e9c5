-- Numbers below m that all differ are at most m.
use Rattle.std.specs.Prelude.{◌≡◌, ◌≢◌, ◌⊎◌, ℕ, zero, suc, ◌+◌, ◌≤◌, ◌<◌, ◌==◌, Bool, true, false, if◌then◌else◌, List, [], ◌∷◌, length}
use Rattle.std.specs.Prelude.{slice_index, refl}
use Rattle.std.proofs.Common.{◌∙◌, sym, arith, inl, inr}
use Rattle.std.proofs.lemmas.Bool.Decides.{nat_tests}
use Rattle.format_spec.specs.Formats.{IsOrder}

another : (ℕ → ℕ) → ℕ → ℕ → ℕ → ℕ
another g m last i = if g i == m then g last else g i

record Another (g : ℕ → ℕ) (m last i r : ℕ) : Type 0 where
  cases : ((g i ≡ m) × (r ≡ g last)) ⊎ ((g i ≢ m) × (r ≡ g i))

another_is : (g : ℕ → ℕ) (m last i : ℕ) → Another g m last i (another g m last i)
unfolding another
another_is g m last i = by_test (g i == m) refl
  where
    by_test : (t : Bool) → (g i == m) ≡ t → Another g m last i (if t then g last else g i)
    by_test true is = record { cases = inl (grind (arith, nat_tests, is), refl) }
    by_test false is = record { cases = inr (grind (arith, nat_tests, is), refl) }

pub all_apart : (n m : ℕ) (g : ℕ → ℕ) → ((i : ℕ) → i < n → g i < m) → ((i j : ℕ) → i < j → j < n → g i ≢ g j) → n ≤ m
all_apart zero m g below apart = omega arith
all_apart (suc n) zero g below apart = let no = below n (omega arith) in absurd (omega (arith, no))
all_apart (suc n) (suc m) g below apart =
    let fewer = all_apart n m (another g m n) (λ i h. small i h (another_is g m n i))
    (λ i j before h. differ i j before h (another_is g m n i) (another_is g m n j)) in
    omega (arith, fewer)
  where
    small : (i : ℕ) → i < n → Another g m n i (another g m n i) → another g m n i < m
    small i h a = elim a.cases [
      | inl c ↦ let last = below n (omega arith) in let other = apart i n h (omega arith) in let is : g n ≢ m = λ same. other (c.0
          ∙ sym same) in omega (arith, c.1, last, is)
      | inr c ↦ let here = below i (omega (arith, h)) in omega (arith, c.0, c.1, here)
    ]

    differ : (i j : ℕ) → i < j → j < n → Another g m n i (another g m n i) → Another g m n j (another g m n j)
        → another g m n i ≢ another g m n j
    differ i j before h a b same = elim a.cases [
      | inl c ↦ elim b.cases [
        | inl e ↦ apart i j before (omega (arith, h)) (c.0 ∙ sym e.0)
        | inr e ↦ apart j n h (omega arith) (sym e.1 ∙ sym same ∙ c.1)
      ]
      | inr c ↦ elim b.cases [
        | inl e ↦ apart i n (omega (arith, before, h)) (omega arith) (sym c.1 ∙ same ∙ e.1)
        | inr e ↦ apart i j before (omega (arith, h)) (sym c.1 ∙ same ∙ e.1)
      ]
    ]

-- where a number stands, if it stands in the list
record StandsIn (xs : List ℕ) (x : ℕ) : Type 0 where
  place : ℕ
  inside : place < length xs
  is : slice_index xs place ≡ x

stands_or_not : (xs : List ℕ) (x : ℕ) → StandsIn xs x ⊎ ((k : ℕ) → k < length xs → slice_index xs k ≢ x)
stands_or_not [] x = inr (λ k h. absurd (omega (arith, h)))
stands_or_not (y ∷ ys) x = by_test (y == x) refl (stands_or_not ys x)
  where
    by_test : (t : Bool) → (y == x) ≡ t → StandsIn ys x ⊎ ((k : ℕ) → k < length ys → slice_index ys k ≢ x)
        → StandsIn (y ∷ ys) x ⊎ ((k : ℕ) → k < length (y ∷ ys) → slice_index (y ∷ ys) k ≢ x)
    by_test true here later = inl (record { place = 0; inside = omega arith; is = grind (arith, nat_tests, here) })
    by_test false here (inl later) = inl (record { place = suc later.place; inside = omega (arith, later.inside); is = later.is })
    by_test false here (inr never) = inr (λ k h. at k h)
      where
        at : (k : ℕ) → k < length (y ∷ ys) → slice_index (y ∷ ys) k ≢ x
        at zero h = let differ : y ≢ x = grind (arith, nat_tests, here) in differ
        at (suc k) h = never k (omega (arith, h))

-- each mode of a tensor stands in an order of its modes
pub each_mode_stands : (n : ℕ) (modes : List ℕ) (mode : ℕ) → IsOrder n modes → mode < n → (k : ℕ) × (k < n) × (slice_index modes k ≡ mode)
each_mode_stands n modes mode order h = by_cases (stands_or_not modes mode)
  where
    small : (i : ℕ) → i < n + 1 → slice_index (mode ∷ modes) i < n
    small zero g = h
    small (suc i) g = order.below i 0 (omega (arith, g, order.count))

    differ : ((k : ℕ) → k < length modes → slice_index modes k ≢ mode) → (i j : ℕ) → i < j → j < n + 1
        → slice_index (mode ∷ modes) i ≢ slice_index (mode ∷ modes) j
    differ never i zero before g = absurd (omega (arith, before))
    differ never zero (suc j) before g = λ same. never j (omega (arith, g, order.count)) (sym same)
    differ never (suc i) (suc j) before g = order.once i j 0 (omega (arith, before)) (omega (arith, g, order.count))

    by_cases : StandsIn modes mode ⊎ ((k : ℕ) → k < length modes → slice_index modes k ≢ mode)
        → (k : ℕ) × (k < n) × (slice_index modes k ≡ mode)
    by_cases (inl s) = (s.place, omega (arith, s.inside, order.count), s.is)
    by_cases (inr never) = let few = all_apart (n + 1) n (slice_index (mode ∷ modes)) small (differ never) in absurd (omega (arith, few))
