-- Values in whose place another is put where a path ends.
use Rattle.std.specs.Prelude.{◌≡◌, ◌⊎◌, ℕ, List, slice_index}
use Rattle.level_core.specs.declared.span.Span.{Span}
use Rattle.level_core.specs.Meaning.{Meaning}
use Rattle.level_rows.specs.Stacks.{Path}

-- a path below the span ends at the position
abbrev pub EndsBelow : {L : Type 0} → Meaning L → List L → Span → ℕ → Type 0
EndsBelow means levels span pos = (xs : List ℕ) × Path means levels span xs pos

-- at some positions this value was put in the place of the others, at all others nothing changed
pub record IsCleared (some : ℕ → Type 0) (nothing : ℕ) (old new : List ℕ) : Type 0 where
  pub there : (pos : ℕ) → some pos → slice_index new pos ≡ nothing
  pub each : (pos : ℕ) → (slice_index new pos ≡ nothing) ⊎ (slice_index new pos ≡ slice_index old pos)
  pub others : (pos : ℕ) → (some pos → ⊥) → slice_index new pos ≡ slice_index old pos
