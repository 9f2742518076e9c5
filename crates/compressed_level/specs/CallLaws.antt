-- What the calls that change a compressed level leave in its fields.
use Rattle.std.specs.Prelude.{◌≡◌, ℕ, ◌+◌, ◌≤◌, ◌<◌, ◌^◌, Bool, List, length, slice_get, Some}
use Rattle.limits.specs.Limits.{greatest_position_count}
use Rattle.level_core.specs.declared.span.Span.{Span}
use Rattle.level_core.specs.declared.stage.Stage.TheVariants.{Unfinished}
use Rattle.level_core.specs.Logs.{total, MayAppendEdges, MayFinish}
use Rattle.compressed_level.specs.Compressed.{letter_of, IsStored, log_in, stored, KeepsRules}

-- what has to be known before the number of a parent's positions is stored
pub record Giving (size : ℕ) (unique : Bool) (ends coords : List ℕ) (next spare parent begin end : ℕ) : Type 0 where
  pub place : parent + 1 < length ends
  pub small : parent < 2 ^ 62
  pub order : begin ≤ end
  pub few : end ≤ greatest_position_count
  pub stored_ends : IsStored Unfinished ends
  pub may : MayAppendEdges (letter_of unique) parent begin end (log_in Unfinished ends coords next)
  pub keeps : KeepsRules (stored size unique Unfinished ends coords next spare)

-- what has to be known before a level is finished
pub record Finishing (size : ℕ) (unique : Bool) (ends coords : List ℕ) (next spare parents : ℕ) : Type 0 where
  pub small : total ends ≤ greatest_position_count
  pub stored_ends : IsStored Unfinished ends
  pub may : MayFinish parents (log_in Unfinished ends coords next)
  pub keeps : KeepsRules (stored size unique Unfinished ends coords next spare)

-- what a read of the segment ends of an allowed parent gives
pub record Reading (ends : List ℕ) (segment parent : Span) : Type 0 where
  pub lo : slice_get ends parent.lo ≡ Some segment.lo
  pub hi : slice_get ends parent.hi ≡ Some segment.hi
  pub lo_inside : parent.lo < length ends
  pub hi_inside : parent.hi < length ends
