-- Scratch lists whose rows are entries: of each its coordinate and its first position.
use Rattle.std.specs.Prelude.{◌≡◌, ℕ, ◌+◌, ◌≤◌, ◌<◌, List, length, map, Some}
use Rattle.lists.specs.Each.{Each}
use Rattle.limits.specs.Limits.{greatest_position_count}
use Rattle.kernel_code.specs.declared.syntax.Arr.TheVariants.{ListCoordinates, ListPositions}
use Rattle.kernel_code.specs.Meaning.{State}
use Rattle.level_core.specs.declared.span.Entry.{Entry}
use Rattle.level_core.specs.Entries.{Rising}
use Rattle.level_cursors.specs.Cursors.{no_coordinate}
pub use Rattle.result_targets.specs.Scratch.{IsOfList, IsOffList, HasList}

-- its rows are these entries
pub record HasRows (list : ℕ) (es : List Entry) (s : State) : Type 0 where
  pub coordinates : s.arrays (ListCoordinates list) ≡ Some (map (λ e. e.coord) es)
  pub positions : s.arrays (ListPositions list) ≡ Some (map (λ e. e.child.lo) es)

-- an entry that a row tells: it has one child position
pub record IsRow (e : Entry) : Type 0 where
  pub below : e.coord < no_coordinate
  pub one : e.child.hi ≡ e.child.lo + 1
  pub within : e.child.hi ≤ greatest_position_count

-- its rows are these entries, in increasing order of their coordinates
pub record HoldsEntries (list : ℕ) (es : List Entry) (s : State) : Type 0 where
  pub rows : HasRows list es s
  pub few : length es ≤ greatest_position_count
  pub each : Each IsRow es
  pub rising : Rising 0 es
