-- Rows that are told more finely: several of them may stand for one row.
use Rattle.std.specs.Prelude.{◌≡◌, ◌⊎◌, ℕ, suc, ◌<◌, false}
use Rattle.level_rows.specs.Rows.{Rows}

-- each of the finer rows stands for one of the rows, with its parent and coordinate, all in order; where two in a row stand for one the
-- second begins no position, and where they stand for two in a row it begins one as the row does
pub record Refines (rows finer : Rows) (to : ℕ → ℕ) : Type 0 where
  pub within : (i : ℕ) → i < finer.count → to i < rows.count
  pub parent : (i : ℕ) → i < finer.count → finer.parent i ≡ rows.parent (to i)
  pub coord : (i : ℕ) → i < finer.count → finer.coord i ≡ rows.coord (to i)
  pub start : 0 < finer.count → (to 0 ≡ 0) × (finer.first 0 ≡ rows.first 0)
  pub step : (i : ℕ) → suc i < finer.count
      → ((to (suc i) ≡ to i) × (finer.first (suc i) ≡ false)) ⊎
      ((to (suc i) ≡ suc (to i)) × (finer.first (suc i) ≡ rows.first (suc (to i))))
  pub ends : (i : ℕ) → finer.count ≡ suc i → rows.count ≡ suc (to i)
  pub none : finer.count ≡ 0 → rows.count ≡ 0
