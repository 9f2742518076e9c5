-- For rows that a kind of level may be given there is a level that stores them, as long as its positions are few.
use Rattle.std.specs.Prelude.{◌≡◌, ℕ, ◌≤◌, ◌<◌, true, false, List, length, slice_index, Some}
use Rattle.limits.specs.Limits.{greatest_position_count}
use Rattle.kernel_code.specs.Widths.{slot_width}
use Rattle.level_core.specs.declared.letter.Letter.{Letter}
use Rattle.level_core.specs.Kinds.{properties, capabilities}
use Rattle.level_core.specs.Orders.{InOrder}
use Rattle.level_rows.specs.Rows.{Rows, Keys, rows_at, place, AreTogether, MayAppendRows, MayInsertRows}
use Rattle.level_rows.specs.Taken.{Stores}
use Rattle.level_rows.specs.Filling.{AreNeeded}
use Rattle.tensor_storage.specs.declared.level.StorageLevel.{StorageLevel}
use Rattle.tensor_storage.specs.Levels.{meaning}

-- rows that a level of this kind and range may be given below so many parents: appended or inserted, as the kind is
pub record MayTake (letter : Letter) (size parents : ℕ) (rows : Rows) : Type 0 where
  pub appends : (capabilities letter).append ≡ true → MayAppendRows letter size parents rows
  pub inserts : (capabilities letter).append ≡ false → MayInsertRows size parents rows × AreTogether rows

-- a level of this kind and range that keeps its rules and stores the rows below so many parents, with so many positions: numbered in
-- the order of the rows where it is appended to; in blocks that are as wide as the greatest number of coordinates below one parent
-- wants them, each sought past smaller ones alone, where they stand without order
pub record HasTaken (letter : Letter) (size parents needed most : ℕ) (rows : Rows) : Type 0 where
  pub level : StorageLevel
  pub places : List ℕ
  pub kind : meaning.kind level ≡ letter
  pub size_is : meaning.size level ≡ size
  pub keeps : meaning.keeps level
  pub many : length places ≡ rows.count
  pub stores : Stores meaning parents needed rows (slice_index places) level
  pub numbered : (capabilities letter).append ≡ true → (i : ℕ) → i < rows.count → slice_index places i ≡ place rows.first i
  pub width : (properties letter).ordered ≡ false → meaning.width level ≡ Some (slot_width most)
  pub order : (properties letter).ordered ≡ false → (p : ℕ) → p < parents → InOrder meaning level p

abbrev pub LevelsTakeRows : Type 0
LevelsTakeRows = (letter : Letter) (size parents : ℕ) (keys : Keys) (above : List ℕ) → size ≤ greatest_position_count
    → parents ≤ greatest_position_count → length above ≡ keys.count → MayTake letter size parents (rows_at keys above)
    → (needed most : ℕ) → AreNeeded letter size parents (rows_at keys above) needed most → needed ≤ greatest_position_count
    → HasTaken letter size parents needed most (rows_at keys above)
