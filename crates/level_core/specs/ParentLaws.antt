-- Laws of parents that stand in a row: their segments share out the positions.
use Rattle.std.specs.Prelude.{ℕ, ◌≤◌, ◌<◌}
use Rattle.level_core.specs.Entries.{Span, one, AreInRow}

-- so many parents that may each be asked, whose segments don't end before they start
pub record Askable (allowed : Span → Type 0) (segment_of : Span → Span) (parents : ℕ) : Type 0 where
  pub row : AreInRow allowed segment_of
  pub each : (p : ℕ) → p < parents → allowed (one p)
  pub rise : (p : ℕ) → p < parents → (segment_of (one p)).lo ≤ (segment_of (one p)).hi
