-- When the search for the coordinate in a slot ends at that slot.
use Rattle.std.specs.Prelude.{◌≡◌, ◌≢◌, ℕ, ◌+◌, ◌%◌, ◌<◌}
use Rattle.hashed_level.specs.Slots.{empty_slot, place}

-- coordinate x is sought from slot x mod w of the block on, wrapping, and slot j is met with no empty slot before it, nor another of x
pub record IsFoundAt (f : ℕ → ℕ) (w base x j : ℕ) : Type 0 where
  pub steps : ℕ
  pub few : steps < w
  pub at : (x + steps) % w ≡ j
  pub filled : (k : ℕ) → k < steps → f (place w base x k) ≢ empty_slot
  pub alone : (k : ℕ) → k < steps → f (place w base x k) ≡ x → (x + k) % w ≡ j

-- a slot is empty, or holds a coordinate below n that is found there
abbrev pub KeepsSlot : (ℕ → ℕ) → ℕ → ℕ → ℕ → ℕ → Type 0
KeepsSlot f n w base j = f (base + j) ≢ empty_slot → (f (base + j) < n) × IsFoundAt f w base (f (base + j)) j
