-- What is told of nested sums one after another stands at their places.
use Rattle.std.specs.Prelude.{◌≡◌, ◌⊎◌, ℕ, zero, suc, ◌+◌, ◌<◌, ◌≤◌, List, [], ◌∷◌, ◌++◌, length, take, None, Some, slice_get, refl}
use Rattle.std.proofs.Common.{◌∙◌, sym, ap, arith, inl, inr, length-append}
use Rattle.index_notation.specs.declared.syntax.NestedSum.{NestedSum}
use Rattle.nested_sums.specs.Told.{told_with}

pub get_first : {X : Type 0} (xs ys : List X) (k : ℕ) → k < length xs → slice_get (xs ++ ys) k ≡ slice_get xs k
get_first [] ys k h = absurd (omega (arith, h))
get_first (x ∷ xs) ys zero h = refl
get_first (x ∷ xs) ys (suc k) h = get_first xs ys k (omega (arith, h))

pub get_last : {X : Type 0} (xs : List X) (y : X) → slice_get (xs ++ (y ∷ [])) (length xs) ≡ Some y
get_last [] y = refl
get_last (x ∷ xs) y = get_last xs y

pub get_beyond : {X : Type 0} (xs : List X) (n : ℕ) → slice_get xs (length xs + n) ≡ None
get_beyond [] n = refl
get_beyond (x ∷ xs) n = let e : length (x ∷ xs) + n ≡ suc (length xs + n) = omega arith in
    ap (slice_get (x ∷ xs)) e ∙ get_beyond xs n

module _ {X : Type 0} (of_sum : List X → NestedSum → X) where
  longer : (told : List X) (x : X) → length (told ++ (x ∷ [])) ≡ length told + 1
  longer told x = length-append told (x ∷ [])

  -- of each access
  pub told_access : (sums : List NestedSum) (told : List X) (k : ℕ) → k < length told
      → slice_get (told_with of_sum told sums) k ≡ slice_get told k
  told_access [] told k h = refl
  told_access (sum ∷ sums) told k h =
      let long = longer told (of_sum told sum) in
      told_access sums (told ++ (of_sum told sum ∷ [])) k (omega (arith, h, long))
      ∙ get_first told (of_sum told sum ∷ []) k h

  -- of each of the first sums
  pub told_sum : (count : ℕ) (sums : List NestedSum) (told : List X) (n : ℕ) (sum : NestedSum) → n < count → slice_get sums n ≡ Some sum
      → slice_get (told_with of_sum told (take count sums)) (length told + n) ≡ Some (of_sum (told_with of_sum told (take n sums)) sum)
  told_sum count [] told n sum below at = cc
  told_sum zero (first ∷ sums) told n sum below at = absurd (omega (arith, below))
  told_sum (suc count) (first ∷ sums) told zero sum below at =
      let same : first ≡ sum = cc in
      let long = longer told (of_sum told first) in
      let here : length told + 0 ≡ length told = omega arith in
      ap (slice_get (told_with of_sum (told ++ (of_sum told first ∷ [])) (take count sums))) here
      ∙ told_access (take count sums) (told ++ (of_sum told first ∷ [])) (length told) (omega (arith, long))
      ∙ get_last told (of_sum told first) ∙ ap (λ s. Some (of_sum told s)) same
  told_sum (suc count) (first ∷ sums) told (suc n) sum below at =
      let more = told ++ (of_sum told first ∷ []) in
      let long = longer told (of_sum told first) in
      let number : length told + suc n ≡ length more + n = omega (arith, long) in
      ap (slice_get (told_with of_sum more (take count sums))) number
      ∙ told_sum count sums more n sum (omega (arith, below)) at

  -- behind them nothing is told
  pub told_beyond : (count : ℕ) (sums : List NestedSum) (told : List X) (n : ℕ) → (count ≤ n) ⊎ (slice_get sums n ≡ None)
      → slice_get (told_with of_sum told (take count sums)) (length told + n) ≡ None
  told_beyond zero [] told n h = get_beyond told n
  told_beyond (suc count) [] told n h = get_beyond told n
  told_beyond zero (first ∷ sums) told n h = get_beyond told n
  told_beyond (suc count) (first ∷ sums) told zero (inl h) = absurd (omega (arith, h))
  told_beyond (suc count) (first ∷ sums) told zero (inr h) = cc
  told_beyond (suc count) (first ∷ sums) told (suc n) h =
      let more = told ++ (of_sum told first ∷ []) in
      let long = longer told (of_sum told first) in
      let number : length told + suc n ≡ length more + n = omega (arith, long) in
      ap (slice_get (told_with of_sum more (take count sums))) number ∙ told_beyond count sums more n (lower h)
    where
      lower : (suc count ≤ suc n) ⊎ (slice_get (first ∷ sums) (suc n) ≡ None) → (count ≤ n) ⊎ (slice_get sums n ≡ None)
      lower (inl h) = inl (omega (arith, h))
      lower (inr h) = inr h

  -- of each sum, when all are told; and what is told before it stays
  pub told_final : (sums : List NestedSum) (told : List X) (i : ℕ) (sum : NestedSum) → slice_get sums i ≡ Some sum
      → (slice_get (told_with of_sum told sums) (length told + i) ≡ Some (of_sum (told_with of_sum told (take i sums)) sum))
      × ((k : ℕ) → k < length told + i → slice_get (told_with of_sum told (take i sums)) k ≡ slice_get (told_with of_sum told sums) k)
  told_final [] told i sum at = cc
  told_final (first ∷ sums) told zero sum at =
      let same : first ≡ sum = cc in
      let more = told ++ (of_sum told first ∷ []) in
      let long = longer told (of_sum told first) in
      let here : length told + 0 ≡ length told = omega arith in (
        ap (slice_get (told_with of_sum more sums)) here ∙ told_access sums more (length told) (omega (arith, long))
            ∙ get_last told (of_sum told first) ∙ ap (λ s. Some (of_sum told s)) same,
        (λ k below. sym (told_access sums more k (omega (arith, below, long))
            ∙ get_first told (of_sum told first ∷ []) k (omega (arith, below)))),
      )
  told_final (first ∷ sums) told (suc i) sum at =
      let more = told ++ (of_sum told first ∷ []) in
      let long = longer told (of_sum told first) in
      let number : length told + suc i ≡ length more + i = omega (arith, long) in
      let rest = told_final sums more i sum at in (
        ap (slice_get (told_with of_sum more sums)) number ∙ rest.0,
        (λ k below. rest.1 k (omega (arith, below, number))),
      )
