-- A search through the slots of a block.
use Rattle.std.specs.Prelude.{◌≡◌, ◌≢◌, ◌⊎◌, ℕ, zero, suc, ◌+◌, ◌≤◌, ◌<◌, ◌==◌, Bool, true, false, refl}
use Rattle.std.proofs.Common.{sym, subst, arith, inl, inr}
use Rattle.std.proofs.lemmas.Bool.Decides.{nat_tests}
use Rattle.hashed_level.specs.Slots.{empty_slot, place, Passes, Stops}
use Rattle.hashed_level.proofs.SearchLaws.{passes_more}

-- a search through the first slots of a block passes them all, or it stops
module _ (f : ℕ → ℕ) (w base x : ℕ) where
  pub record Found : Type 0 where
    pub slot : ℕ
    pub stops : Stops f w base x slot

  search_on : (d : ℕ) → d < w → Passes f w base x d → Found ⊎ Passes f w base x (suc d)
  search_on d h before = by_empty (f (place w base x d) == empty_slot) refl
    where
      more : suc d ≡ d + 1
      more = omega arith

      by_same : f (place w base x d) ≢ empty_slot → (b : Bool) → (f (place w base x d) == x) ≡ b → Found ⊎ Passes f w base x (suc d)
      by_same full true is =
          let here : f (place w base x d) ≡ x = grind (arith, nat_tests, is) in
          inl (record {
            slot = place w base x d;
            stops = record { steps = d; few = h; at = refl; stop = inr here; filled = before.filled; passed = before.passed };
          })
      by_same full false is =
          let other : f (place w base x d) ≢ x = grind (arith, nat_tests, is) in
          inr (subst (Passes f w base x) (sym more) (passes_more f w base x d before full other))

      by_empty : (b : Bool) → (f (place w base x d) == empty_slot) ≡ b → Found ⊎ Passes f w base x (suc d)
      by_empty true is =
          let here : f (place w base x d) ≡ empty_slot = grind (arith, nat_tests, is) in
          inl (record {
            slot = place w base x d;
            stops = record { steps = d; few = h; at = refl; stop = inl here; filled = before.filled; passed = before.passed };
          })
      by_empty false is =
          let full : f (place w base x d) ≢ empty_slot = grind (arith, nat_tests, is) in
          by_same full (f (place w base x d) == x) refl

  pub searched : (d : ℕ) → d ≤ w → Found ⊎ Passes f w base x d
  searched zero h = inr (record { filled = λ k less. absurd (omega (arith, less)); passed = λ k less. absurd (omega (arith, less)) })
  searched (suc d) h = by_before (searched d (omega (arith, h)))
    where
      by_before : Found ⊎ Passes f w base x d → Found ⊎ Passes f w base x (suc d)
      by_before (inl there) = inl there
      by_before (inr passed) = search_on d (omega (arith, h)) passed
