-- Rows of a whole tensor: the coordinates of each at every level, and what the order of the rows tells of the positions that they
-- are given level by level.
use Rattle.std.specs.Prelude.{◌≡◌, ℕ, suc, ◌≤◌, ◌<◌, Bool, true, false, List, [], ◌∷◌}
use Rattle.level_core.specs.Kinds.{properties}
use Rattle.level_core.specs.Meaning.{Meaning}
use Rattle.level_rows.specs.Rows.{Rows}
use Rattle.level_rows.specs.Stacks.{Column}

-- the rows have the same coordinates at the first n levels
abbrev pub Agree : (ℕ → ℕ → ℕ) → ℕ → ℕ → ℕ → Type 0
Agree coords n i j = (d : ℕ) → d < n → coords d i ≡ coords d j

-- row i stands before row j: at the first of so many levels where they differ, its coordinate is smaller
abbrev pub IsBefore : (ℕ → ℕ → ℕ) → ℕ → ℕ → ℕ → Type 0
IsBefore coords order i j = (d : ℕ) × (d < order) × Agree coords d i j × (coords d i < coords d j)

-- so many rows in increasing order of their coordinates
abbrev pub Increase : (ℕ → ℕ → ℕ) → ℕ → ℕ → Type 0
Increase coords order count = (i : ℕ) → suc i < count → IsBefore coords order i (suc i)

-- a row begins a position exactly where it is the first or differs from the row before at one of the first n levels
pub record Begins (coords : ℕ → ℕ → ℕ) (n count : ℕ) (first : ℕ → Bool) : Type 0 where
  pub start : 0 < count → first 0 ≡ true
  pub differs : (i : ℕ) → suc i < count → first (suc i) ≡ true → Agree coords n i (suc i) → ⊥
  pub agrees : (i : ℕ) → suc i < count → first (suc i) ≡ false → Agree coords n i (suc i)

-- the coordinates at level d, and which rows begin positions there: those that differ at the first levels, of which the level is
-- the last where it is unique
pub record IsColumnOf (coords : ℕ → ℕ → ℕ) (d count : ℕ) (unique : Bool) (column : Column) : Type 0 where
  pub coord : (i : ℕ) → i < count → column.coord i ≡ coords d i
  pub through : ℕ
  pub begins : Begins coords through count column.first
  pub last : unique ≡ true → through ≡ suc d

-- rows have positions: two rows the same exactly where they agree at the first n levels
pub record ShareBy (coords : ℕ → ℕ → ℕ) (n count positions : ℕ) (place : ℕ → ℕ) : Type 0 where
  pub within : (i : ℕ) → i < count → place i < positions
  pub agree : (i j : ℕ) → i < j → j < count → place i ≡ place j → Agree coords n i j
  pub share : (i j : ℕ) → i < j → j < count → Agree coords n i j → place i ≡ place j

-- positions never fall from row to row
abbrev pub NeverFall : ℕ → (ℕ → ℕ) → Type 0
NeverFall count place = (i : ℕ) → suc i < count → place i ≤ place (suc i)

-- each position is that of a row
abbrev pub AllPlaced : ℕ → ℕ → (ℕ → ℕ) → Type 0
AllPlaced count positions place = (p : ℕ) → p < positions → (i : ℕ) × (i < count) × (place i ≡ p)

-- the rows that the level numbered d is given, where positions are begun at each difference at the first n levels
pub record AreRowsOf (coords : ℕ → ℕ → ℕ) (d n size : ℕ) (rows : Rows) : Type 0 where
  pub coord : (i : ℕ) → i < rows.count → rows.coord i ≡ coords d i
  pub below : (i : ℕ) → i < rows.count → coords d i < size
  pub begins : Begins coords n rows.count rows.first

-- from the level numbered d on the columns have the table's coordinates, and at a unique level each difference there begins a position
abbrev pub AreColumnsOf : {L : Type 0} → Meaning L → (ℕ → ℕ → ℕ) → ℕ → List L → List Column → ℕ → Type 0
AreColumnsOf means coords count [] columns d = Unit {0}
AreColumnsOf means coords count (l ∷ ls) [] d = ⊥
AreColumnsOf means coords count (l ∷ ls) (column ∷ columns) d =
    IsColumnOf coords d count (properties (means.kind l)).unique column × AreColumnsOf means coords count ls columns (suc d)
