-- Places apart from the variables of a sink, which stand between two numbers: so code that a sum is made by may use places that are kept
-- below the sum's own variables.
use Rattle.std.specs.Prelude.{◌≡◌, ◌⊎◌, ℕ, ◌+◌, ◌≤◌, ◌<◌, Some, All, slice_get}
use Rattle.term_code.specs.declared.places.Places.{Places}
use Rattle.term_code.specs.declared.places.AccessPlace.{AccessPlace}

-- each place is below the least number, or from low on
pub record AreOutside (least low : ℕ) (places : Places) : Type 0 where
  pub variables : All (λ y. (y < least) ⊎ (low ≤ y)) places.variables
  pub accesses : (k : ℕ) (p : AccessPlace) → slice_get places.accesses k ≡ Some p → (p.cursor + 3 ≤ least) ⊎ (low ≤ p.cursor)
