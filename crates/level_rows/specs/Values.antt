-- Values at the positions of rows.
use Rattle.std.specs.Prelude.{◌≡◌, ◌≢◌, ℕ, ◌<◌, List, length, slice_index}

-- the value of each of the first n rows stands at its position, and all other values are as before
pub record StoresValues (n : ℕ) (place : ℕ → ℕ) (value : ℕ → ℕ) (before after : List ℕ) : Type 0 where
  pub long : length after ≡ length before
  pub stored : (i : ℕ) → i < n → slice_index after (place i) ≡ value i
  pub others : (p : ℕ) → ((i : ℕ) → i < n → place i ≢ p) → slice_index after p ≡ slice_index before p
