-- The accesses of a flat statement that read its sums: their tensors are numbered behind those that the store has operands for.
use Rattle.std.specs.Prelude.{◌≡◌, ◌⊎◌, ℕ, zero, suc, ◌+◌, ◌≤◌, ◌<◌, nat_lt, nat_le, not, Bool, true, false, List, [], ◌∷◌, ◌++◌, length}
use Rattle.std.specs.Prelude.{take, Option, Some, None, slice_get, slice_index_or, refl}
use Rattle.std.proofs.Common.{◌∙◌, sym, ap, subst, arith, inl, inr, length-append}
use Rattle.std.proofs.lemmas.Bool.Decides.{nat_tests}
use Rattle.format_spec.specs.declared.format.FormatLevel.{FormatLevel}
use Rattle.index_notation.specs.declared.syntax.Access.{Access}
use Rattle.index_notation.specs.declared.syntax.NestedSum.{NestedSum}
use Rattle.index_notation.specs.declared.syntax.Statement.{Statement}
use Rattle.expr_terms.specs.Nested.{accesses_with, flat, sum_access}
use Rattle.expr_terms.proofs.NestedLaws.{accesses_kept, accesses_longer, names_longer}
use Rattle.lowering.specs.Sums.{first_sum}
use Rattle.kernel_correctness.specs.Stores.{IsFlat}
use Rattle.kernel_correctness.proofs.FlatStores.{access_told}
use Rattle.dense_results.specs.Operands.{first_summed}

outside : {X : Type 0} (xs : List X) (k : ℕ) → length xs ≤ k → slice_get xs k ≡ None
outside [] k h = refl
outside (x ∷ xs) zero h = absurd (omega (arith, h))
outside (x ∷ xs) (suc k) h = outside xs k (omega (arith, h))

pub default_outside : {X : Type 0} (xs : List X) (k : ℕ) (d : X) → length xs ≤ k → slice_index_or xs k d ≡ d
default_outside [] k d h = refl
default_outside (x ∷ xs) zero d h = absurd (omega (arith, h))
default_outside (x ∷ xs) (suc k) d h = default_outside xs k d (omega (arith, h))

pub get_taken : {X : Type 0} (xs : List X) (n k : ℕ) → k < n → slice_get (take n xs) k ≡ slice_get xs k
get_taken xs zero k h = absurd (omega (arith, h))
get_taken [] (suc n) k h = refl
get_taken (x ∷ xs) (suc n) zero h = refl
get_taken (x ∷ xs) (suc n) (suc k) h = get_taken xs n k (omega (arith, h))

pub below_or_not : (k n : ℕ) → (k < n) ⊎ (n ≤ k)
below_or_not k n = by (nat_lt k n) refl
  where
    by : (b : Bool) → nat_lt k n ≡ b → (k < n) ⊎ (n ≤ k)
    by true is = inl (grind (arith, nat_tests, is))
    by false is = inr (grind (arith, nat_tests, is))

get_first : (xs ys : List Access) (k : ℕ) → k < length xs → slice_get (xs ++ ys) k ≡ slice_get xs k
get_first [] ys k l = absurd (omega (arith, l))
get_first (x ∷ xs) ys zero l = refl
get_first (x ∷ xs) ys (suc k) l = get_first xs ys k (omega (arith, l))

get_last : (xs : List Access) (y : Access) → slice_get (xs ++ (y ∷ [])) (length xs) ≡ Some y
get_last [] y = refl
get_last (x ∷ xs) y = get_last xs y

some_tensor : (x y : Access) → Some x ≡ Some y → x.tensor ≡ y.tensor
some_tensor x y h = let same : x ≡ y = cc h in ap (λ (z : Access). z.tensor) same

-- behind the first accesses stand those of sums
sums_behind : (vars : ℕ) (accesses : List Access) (tensor : ℕ) (sums : List NestedSum) (k : ℕ) (access : Access) → length accesses ≤ k
    → slice_get (accesses_with vars accesses tensor sums) k ≡ Some access → tensor ≤ access.tensor
sums_behind vars accesses tensor [] k access behind at = absurd (let none = outside accesses k behind in
    let no : ◌≡◌ {A = Option Access} None (Some access) = sym none ∙ at in cc)
sums_behind vars accesses tensor (sum ∷ sums) k access behind at =
    by (below_or_not (length accesses) k)
    (λ later. sums_behind vars (accesses ++ (one ∷ [])) (tensor + 1) sums k access (omega (arith, later, longer)) at)
  where
    one : Access
    one = sum_access vars accesses tensor sum

    longer : length (accesses ++ (one ∷ [])) ≡ length accesses + 1
    longer = length-append accesses (one ∷ [])

    by : (length accesses < k) ⊎ (k ≤ length accesses) → (length accesses < k → tensor + 1 ≤ access.tensor) → tensor ≤ access.tensor
    by (inr low) rest =
        let here : k ≡ length accesses = omega (arith, low, behind) in
        let kept = accesses_kept vars (accesses ++ (one ∷ [])) (tensor + 1) sums in
        let found : ◌≡◌ {A = Option Access} (Some one) (Some access) =
        sym (get_last accesses one) ∙ sym (get_first (accesses ++ (one ∷ [])) kept.0 (length accesses) (omega (arith, longer)))
        ∙ ap (λ (xs : List Access). slice_get xs (length accesses)) (sym kept.1)
        ∙ ap (slice_get (accesses_with vars accesses tensor (sum ∷ sums))) (sym here) ∙ at in
        let same = some_tensor one access found in
        let is : one.tensor ≡ tensor = refl in
        omega (arith, same, is)
    by (inl later) rest = let more = rest later in omega (arith, more)

module _ (s : Statement) (formats : List (List FormatLevel)) (is : IsFlat s formats) where
  -- an access behind the first ones reads a sum
  pub sum_read : (k : ℕ) (access : Access) → slice_get s.accesses k ≡ Some access → first_sum s ≤ k → first_summed s ≤ access.tensor
  sum_read k access at behind =
      subst (λ (t : Statement). slice_get t.accesses k ≡ Some access → first_sum t ≤ k → first_summed t ≤ access.tensor) (sym is.is)
      there at behind
    where
      there : slice_get (flat is.written).accesses k ≡ Some access → first_sum (flat is.written) ≤ k
          → first_summed (flat is.written) ≤ access.tensor
      there found here =
          let w = is.written in
          let accesses = accesses_longer (length w.vars) w.accesses (length w.tensors) w.sums in
          let tensors = names_longer w.tensors w.sums in
          let low = sums_behind (length w.vars) w.accesses (length w.tensors) w.sums k access (omega (arith, here, accesses)) found in
          omega (arith, low, tensors)

  -- so a place tells whether it is that of a sum by its tensor
  pub place_tells : (k : ℕ) (access : Access) → slice_get s.accesses k ≡ Some access
      → nat_le (first_summed s) access.tensor ≡ not (nat_lt k (first_sum s))
  place_tells k access at = by (below_or_not k (first_sum s))
    where
      stored : (k n t m : ℕ) → k < n → t < m → nat_le m t ≡ not (nat_lt k n)
      stored k n t m h l = grind (arith, nat_tests, h, l)

      summed : (k n t m : ℕ) → n ≤ k → m ≤ t → nat_le m t ≡ not (nat_lt k n)
      summed k n t m h l = grind (arith, nat_tests, h, l)

      by : (k < first_sum s) ⊎ (first_sum s ≤ k) → nat_le (first_summed s) access.tensor ≡ not (nat_lt k (first_sum s))
      by (inl real) = stored k (first_sum s) access.tensor (first_summed s) real (access_told s formats is k access at real)
      by (inr sum) = summed k (first_sum s) access.tensor (first_summed s) sum (sum_read k access at sum)
