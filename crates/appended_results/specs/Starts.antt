-- The result's arrays before the first row, as a kernel finds them.
use Rattle.std.specs.Prelude.{◌≡◌, ℕ, suc, ◌≤◌, ◌<◌, false, List, [], length, replicate, slice_index, All, Some}
use Rattle.limits.specs.Limits.{greatest_position_count}
use Rattle.kernel_code.specs.declared.syntax.Arr.TheVariants.{Values}
use Rattle.level_core.specs.declared.letter.Letter.{Letter}
use Rattle.level_core.specs.Laws.{AreAtStart}
use Rattle.level_core.specs.Meaning.{Arrays}
use Rattle.format_spec.specs.Formats.{Chained}
use Rattle.appended_results.specs.Heads.{letter_at, IsHead, AreAppended, key_in}
use Rattle.appended_results.specs.Places.{positions_above}
use Rattle.appended_results.specs.Rows.{all_positions}

-- how many positions there are at the first d levels before any row: where all of them are full as many as at the end, else none
abbrev pub starting : List Letter → List ℕ → ℕ → ℕ
starting letters sizes d = positions_above letters sizes (key_in []) 0 d

-- kinds of levels and ranges that rows may be appended to, so many of the levels to the last that isn't full
pub record MayStart (letters : List Letter) (sizes : List ℕ) (head : ℕ) : Type 0 where
  pub is_head : IsHead letters head
  pub appended : AreAppended letters
  pub chained : Chained false letters
  pub each : length sizes ≡ length letters
  pub small : All (λ size. size ≤ greatest_position_count) sizes
  pub few : (e : ℕ) → e ≤ length letters → starting letters sizes e ≤ greatest_position_count

-- each level has the parents that full levels alone make above it, and none below another level; there is a value for each position
pub record StartsResult (letters : List Letter) (sizes : List ℕ) (nothing : ℕ) (arrays : Arrays) : Type 0 where
  pub levels : (e : ℕ) → e < length letters
      → AreAtStart (letter_at letters e) (slice_index sizes e) (starting letters sizes e) 0 (suc e) arrays
  pub values : arrays (Values 0) ≡ Some (replicate (all_positions letters sizes []) nothing)
