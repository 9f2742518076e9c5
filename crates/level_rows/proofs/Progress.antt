-- How far the appending of rows is.
use Rattle.std.specs.Prelude.{◌≡◌, ◌⊎◌, ℕ, suc, ◌≤◌, ◌<◌, Bool, true, false, List, [], ◌∷◌, length, drop, replicate, slice_index}
use Rattle.level_core.specs.declared.letter.Letter.{Letter}
use Rattle.level_core.specs.declared.stage.Stage.TheVariants.{Unfinished}
use Rattle.level_core.specs.Entries.{IsIn, one}
use Rattle.level_core.specs.Kinds.{properties}
use Rattle.level_core.specs.Logs.{Log, total, Rises, IsLog, segment_in}
use Rattle.level_rows.specs.Rows.{Rows, begun, place}

-- each number in the list is at most that
abbrev pub UpTo : ℕ → List ℕ → Type 0
UpTo most [] = Unit {0}
UpTo most (x ∷ xs) = (x ≤ most) × UpTo most xs

-- the coordinates after n rows
pub record Appended (n : ℕ) (rows : Rows) (coords : List ℕ) : Type 0 where
  pub many : length coords ≡ begun rows.first n
  pub at : (i : ℕ) → i < n → slice_index coords (place rows.first i) ≡ rows.coord i

-- the parents up to the last one's were given their positions: those of rows, and the last one's begin where the others' end
pub record Given (unique : Bool) (n last begin : ℕ) (rows : Rows) (log : Log) : Type 0 where
  pub ends : begin ≡ total log.counts
  pub next : log.next ≤ last
  pub is : IsLog log
  pub upto : (i : ℕ) → i < n → rows.parent i ≤ last
  pub earlier : (i : ℕ) → i < n → rows.parent i < last → IsIn (place rows.first i) (segment_in log.counts (one (rows.parent i)))
  pub pending : (i : ℕ) → i < n → rows.parent i ≡ last → begin ≤ place rows.first i
  pub rise : Rises unique 0 (drop begin log.coords)
  pub least : (drop begin log.coords ≡ []) ⊎ ((i : ℕ) × (n ≡ suc i) × (rows.parent i ≡ last) × UpTo (rows.coord i) (drop begin log.coords))

-- after n rows, the last of which has this parent, whose positions begin there; branchless levels give each parent one
pub record Progress (letter : Letter) (parents n last begin : ℕ) (rows : Rows) (log : Log) : Type 0 where
  pub stage : log.stage ≡ Unfinished
  pub reserved : length log.counts ≡ parents
  pub appended : Appended n rows log.coords
  pub given : (properties letter).branchless ≡ false → Given (properties letter).unique n last begin rows log
  pub ones : (properties letter).branchless ≡ true → log.counts ≡ replicate parents 1

-- when all rows are appended: the rows of each parent have their places among its positions, and each position is given
pub record Filled (parents : ℕ) (rows : Rows) (log : Log) : Type 0 where
  pub stage : log.stage ≡ Unfinished
  pub reserved : length log.counts ≡ parents
  pub given : total log.counts ≡ length log.coords
  pub appended : Appended rows.count rows log.coords
  pub below : (i : ℕ) → i < rows.count → IsIn (place rows.first i) (segment_in log.counts (one (rows.parent i)))

-- a list of positions while rows are placed one after another: those of the first rows, and of the others those of their parents
pub record Placing (done : ℕ) (rows : Rows) (place : ℕ → ℕ) (positions : List ℕ) : Type 0 where
  pub many : length positions ≡ rows.count
  pub behind : (i : ℕ) → i < done → slice_index positions i ≡ place i
  pub ahead : (i : ℕ) → done ≤ i → i < rows.count → slice_index positions i ≡ rows.parent i
