-- The rows of a whole result, level by level, and a growth that its table tells to be too large.
use Rattle.std.specs.Prelude.{◌≡◌, ◌⊎◌, ℕ, suc, ◌≤◌, ◌<◌, List, length, slice_index}
use Rattle.limits.specs.Limits.{greatest_position_count}
use Rattle.kernel_code.specs.declared.syntax.Arr.{Arr}
use Rattle.kernel_code.specs.declared.syntax.Arr.TheVariants.{Values}
use Rattle.level_core.specs.declared.letter.Letter.{Letter}
use Rattle.level_core.specs.Fragments.{IsOf}
use Rattle.level_rows.specs.Tables.{Increase}
use Rattle.tensor_map.specs.Entries.{Entry}
use Rattle.tensor_storage.specs.Counts.{positions_from}
use Rattle.tensor_storage.specs.Tables.{Table}
use Rattle.appended_results.specs.Heads.{row_at}

-- a table in increasing order at so many levels that has the coordinates of each of these rows
pub record NamesRows (levels : ℕ) (rows : List Entry) (table : Table) : Type 0 where
  pub rise : Increase table.coords levels table.count
  pub each : (i : ℕ) → i < length rows → (j : ℕ) × (j < table.count)
      × ((d : ℕ) → d < levels → table.coords d j ≡ slice_index (row_at rows i).coords d)

-- a growth of one of the levels, or of the values in its place, to a count that passes the limit and is at most the number of positions
-- that the table tells there
pub record PassesTable (letters : List Letter) (sizes : List ℕ) (table : Table) (a : Arr) (count : ℕ) : Type 0 where
  pub level : ℕ
  pub inside : level < length letters
  pub array : IsOf 0 (suc level) a ⊎ (a ≡ Values 0)
  pub above : greatest_position_count < count
  pub within : count ≤ slice_index (positions_from table 0 1 letters sizes) level
