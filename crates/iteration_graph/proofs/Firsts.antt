-- Lemmas about what specs/Firsts.antt defines.
use Rattle.std.specs.Prelude.{◌≡◌, ◌⊎◌, ℕ, zero, suc, ◌+◌, ◌≤◌, ◌<◌, ◌-◌, Bool, true, false, if◌then◌else◌, Some, None, refl}
use Rattle.std.proofs.Common.{◌∙◌, ap, subst, arith, inl, inr}
use Rattle.std.proofs.lemmas.Bool.{cases_lt}
use Rattle.iteration_graph.specs.Graphs.{first_from, first_below}
use Rattle.iteration_graph.specs.Firsts.{IsFirst}

found_from : (passes : ℕ → Bool) (k count v : ℕ) → first_from passes k count ≡ Some v → IsFirst passes k (k + count) v
found_from passes k zero v h = absurd (none_is_some h)
  where
    none_is_some : None ≡ Some v → ⊥
    none_is_some h = cc
found_from passes k (suc count) v h = by_test (passes k) refl h (found_from passes (k + 1) count v)
  where
    by_test : (t : Bool) → passes k ≡ t → (if t then Some k else first_from passes (k + 1) count) ≡ Some v
        → (first_from passes (k + 1) count ≡ Some v → IsFirst passes (k + 1) (k + 1 + count) v) → IsFirst passes k (k + suc count) v
    by_test true is h later =
        let same : k ≡ v = cc in
        record {
          here = omega (arith, same);
          within = omega (arith, same);
          passes_it = subst (λ u. passes u ≡ true) same is;
          others =
              λ u g l. absurd (omega (arith, same, g, l));
        }
    by_test false is h later =
        let f = later h in
        record {
          here = omega (arith, f.here);
          within = omega (arith, f.within);
          passes_it = f.passes_it;
          others =
              λ u g l. before f u g l (cases_lt k u);
        }
      where
        before : IsFirst passes (k + 1) (k + 1 + count) v → (u : ℕ) → k ≤ u → u < v → (k < u) ⊎ (u ≤ k) → passes u ≡ false
        before f u g l (inl later) = f.others u (omega (arith, later)) l
        before f u g l (inr same) = let at : u ≡ k = omega (arith, g, same) in ap passes at ∙ is

none_from : (passes : ℕ → Bool) (k count u : ℕ) → first_from passes k count ≡ None → k ≤ u → u < k + count → passes u ≡ false
none_from passes k zero u h g l = absurd (omega (arith, g, l))
none_from passes k (suc count) u h g l =
    by_test (passes k) refl h (λ rest later. none_from passes (k + 1) count u rest later (omega (arith, l)))
  where
    by_test : (t : Bool) → passes k ≡ t → (if t then Some k else first_from passes (k + 1) count) ≡ None
        → (first_from passes (k + 1) count ≡ None → k + 1 ≤ u → passes u ≡ false) → passes u ≡ false
    by_test true is h rest = absurd (some_is_none h)
      where
        some_is_none : Some k ≡ None → ⊥
        some_is_none h = cc
    by_test false is h rest = by_order (cases_lt k u)
      where
        by_order : (k < u) ⊎ (u ≤ k) → passes u ≡ false
        by_order (inl later) = rest h (omega (arith, later))
        by_order (inr same) = let at : u ≡ k = omega (arith, g, same) in ap passes at ∙ is

-- the first one below n
pub found_below : (n : ℕ) (passes : ℕ → Bool) (v : ℕ) → first_below n passes ≡ Some v → IsFirst passes 0 n v
found_below n passes v h = let f =
    found_from passes 0 n v h in record { here = f.here; within = omega (arith, f.within); passes_it = f.passes_it; others = f.others }

-- where there is none
pub none_below : (n : ℕ) (passes : ℕ → Bool) (u : ℕ) → first_below n passes ≡ None → u < n → passes u ≡ false
none_below n passes u h l = none_from passes 0 n u h (omega arith) (omega (arith, l))

-- one number tested
pub first_goes_on : (n : ℕ) (passes : ℕ → Bool) (k : ℕ) → k < n
    → first_from passes k (n - k) ≡ (if passes k then Some k else first_from passes (k + 1) (n - (k + 1)))
first_goes_on n passes k h = let more : n - k ≡ suc (n - (k + 1)) = omega (arith, h) in ap (first_from passes k) more

pub first_here : (n : ℕ) (passes : ℕ → Bool) (k : ℕ) → k < n → passes k ≡ true → first_from passes k (n - k) ≡ Some k
first_here n passes k h is = first_goes_on n passes k h ∙ ap (λ t. if t then Some k else first_from passes (k + 1) (n - (k + 1))) is

pub first_later : (n : ℕ) (passes : ℕ → Bool) (k : ℕ) → k < n → passes k ≡ false
    → first_from passes k (n - k) ≡ first_from passes (k + 1) (n - (k + 1))
first_later n passes k h is = first_goes_on n passes k h ∙ ap (λ t. if t then Some k else first_from passes (k + 1) (n - (k + 1))) is

pub first_none : (n : ℕ) (passes : ℕ → Bool) (k : ℕ) → n ≤ k → first_from passes k (n - k) ≡ None
first_none n passes k h = let left : n - k ≡ 0 = omega (arith, h) in ap (first_from passes k) left
