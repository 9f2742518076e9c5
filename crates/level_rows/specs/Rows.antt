-- What a level is given: rows, each with a position of the level above and a coordinate. Rows that follow one another may share a
-- position of the level, which the first of them begins.
use Rattle.std.specs.Prelude.{◌≡◌, ◌≢◌, ◌⊎◌, ℕ, zero, suc, ◌+◌, ◌-◌, ◌≤◌, ◌<◌, ◌==◌, ◌&&◌}
use Rattle.std.specs.Prelude.{Bool, true, false, if◌then◌else◌, List, length, slice_index, Some}
use Rattle.level_core.specs.declared.letter.Letter.{Letter}
use Rattle.level_core.specs.declared.span.Span.{Span}
use Rattle.level_core.specs.declared.span.Entry.{Entry}
use Rattle.level_core.specs.Entries.{IsIn, coord_at}
use Rattle.level_core.specs.Kinds.{properties}
use Rattle.level_core.specs.Logs.{gap}

-- how many rows, and of each the position of the level above, the coordinate, and whether it begins a position
pub record Rows : Type 0 where
  pub count : ℕ
  pub parent : ℕ → ℕ
  pub coord : ℕ → ℕ
  pub first : ℕ → Bool

-- what is known of rows whatever the positions of the level above are
pub record Keys : Type 0 where
  pub count : ℕ
  pub coord : ℕ → ℕ
  pub first : ℕ → Bool

-- the rows whose positions of the level above stand in a list
abbrev pub rows_at : Keys → List ℕ → Rows
rows_at keys positions = record { count = keys.count; parent = slice_index positions; coord = keys.coord; first = keys.first }

-- how many positions the first n rows begin
abbrev pub begun : (ℕ → Bool) → ℕ → ℕ
begun first zero = 0
begun first (suc n) = if first n then begun first n + 1 else begun first n

-- each row begins a position
abbrev pub AllBegin : Keys → Type 0
AllBegin keys = (i : ℕ) → i < keys.count → keys.first i ≡ true

-- a list has the coordinate of each row
pub record HasCoords (keys : Keys) (column : List ℕ) : Type 0 where
  pub long : length column ≡ keys.count
  pub at : (i : ℕ) → i < keys.count → slice_index column i ≡ keys.coord i

-- the position of a row where positions are numbered in the order in which rows begin them
abbrev pub place : (ℕ → Bool) → ℕ → ℕ
place first i = begun first (suc i) - 1

-- how many positions the first n rows begin below a parent
abbrev pub begun_below : Rows → ℕ → ℕ → ℕ
begun_below rows p zero = 0
begun_below rows p (suc n) = if rows.first n && (rows.parent n == p) then begun_below rows p n + 1 else begun_below rows p n

-- the greatest number of positions that rows begin below one parent: none is greater, and there is one unless it is zero
pub record IsGreatestBelow (rows : Rows) (most : ℕ) : Type 0 where
  pub upto : (p : ℕ) → begun_below rows p rows.count ≤ most
  pub reached : (most ≡ 0) ⊎ ((i : ℕ) × (i < rows.count) × (begun_below rows (rows.parent i) rows.count ≡ most))

-- rows of one parent stand together
abbrev pub AreTogether : Rows → Type 0
AreTogether rows = (i j k : ℕ) → i < j → j < k → k < rows.count → rows.parent i ≡ rows.parent k → rows.parent j ≡ rows.parent k

-- a row stands behind the row before: by its parent or, below one parent, by its coordinate
abbrev pub IsBehind : Bool → Rows → ℕ → Type 0
IsBehind unique rows i =
    (rows.parent i < rows.parent (suc i)) ⊎ ((rows.parent i ≡ rows.parent (suc i)) × (rows.coord i + gap unique ≤ rows.coord (suc i)))

-- rows in order for a level of this range below so many parents: the first row begins a position; a later one that begins a
-- position stands behind the row before, and one that begins none has the parent and coordinate of the row before
pub record InOrder (unique : Bool) (size parents : ℕ) (rows : Rows) : Type 0 where
  pub below : (i : ℕ) → i < rows.count → rows.coord i < size
  pub within : (i : ℕ) → i < rows.count → rows.parent i < parents
  pub begins : 0 < rows.count → rows.first 0 ≡ true
  pub behind : (i : ℕ) → suc i < rows.count → rows.first (suc i) ≡ true → IsBehind unique rows i
  pub again : (i : ℕ) → suc i < rows.count → rows.first (suc i) ≡ false
      → (rows.parent (suc i) ≡ rows.parent i) × (rows.coord (suc i) ≡ rows.coord i)

-- each parent has rows, and the first of them alone begins a position
pub record OneEach (parents : ℕ) (rows : Rows) : Type 0 where
  pub some : (p : ℕ) → p < parents → (i : ℕ) × (i < rows.count) × (rows.parent i ≡ p)
  pub alone : (i : ℕ) → suc i < rows.count → rows.first (suc i) ≡ true → rows.parent (suc i) ≢ rows.parent i

-- rows that a level of this kind and range may be given below so many parents, one position after another
pub record MayAppendRows (letter : Letter) (size parents : ℕ) (rows : Rows) : Type 0 where
  pub order : InOrder (properties letter).unique size parents rows
  pub each : (properties letter).branchless ≡ true → OneEach parents rows

-- rows that may be inserted into a level of this range below so many parents, which stand in any order: a row that begins a
-- position has a greater coordinate than those before it below its parent
pub record MayInsertRows (size parents : ℕ) (rows : Rows) : Type 0 where
  pub below : (i : ℕ) → i < rows.count → rows.coord i < size
  pub within : (i : ℕ) → i < rows.count → rows.parent i < parents
  pub begins : 0 < rows.count → rows.first 0 ≡ true
  pub above : (i n : ℕ) → i < n → n < rows.count → rows.first n ≡ true → rows.parent i ≡ rows.parent n → rows.coord i < rows.coord n
  pub again : (i : ℕ) → suc i < rows.count → rows.first (suc i) ≡ false
      → (rows.parent (suc i) ≡ rows.parent i) × (rows.coord (suc i) ≡ rows.coord i)

-- the level stands for rows that are placed: below a span of parents that is asked, the coordinate of each of its rows stands at
-- the row's place, a row's place is in the segment of its own parents alone, and nothing else is stored where the level isn't full
pub record StandsFor (full : Bool) (asked : Span → Type 0) (segment_of : Span → Span) (entries : Span → List Entry)
    (rows : Rows) (place : ℕ → ℕ) : Type 0 where
  pub has : (parent : Span) (i : ℕ) → asked parent → i < rows.count → IsIn (rows.parent i) parent
      → coord_at (entries parent) (place i) ≡ Some (rows.coord i)
  pub alone : (parent : Span) (i : ℕ) → asked parent → i < rows.count → IsIn (place i) (segment_of parent) → IsIn (rows.parent i) parent
  pub only : full ≡ false → (parent : Span) (pos x : ℕ) → asked parent → IsIn pos (segment_of parent)
      → coord_at (entries parent) pos ≡ Some x
      → (i : ℕ) × (i < rows.count) × (place i ≡ pos)

-- the coordinates of rows in a row rise whose parents are in the span
abbrev pub RiseIn : Bool → Rows → Span → Type 0
RiseIn unique rows s = (i : ℕ) → suc i < rows.count → rows.first (suc i) ≡ true → IsIn (rows.parent i) s → IsIn (rows.parent (suc i)) s
    → rows.coord i + gap unique ≤ rows.coord (suc i)
