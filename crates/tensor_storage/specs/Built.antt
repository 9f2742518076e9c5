-- Levels that keep the rules of their kinds, each with as many parents as the level above it has positions.
use Rattle.std.specs.Prelude.{◌≡◌, ◌≢◌, ℕ, zero, suc, ◌+◌, ◌<◌, true, false, List, [], ◌∷◌, map, Some, None}
use Rattle.kernel_code.specs.Widths.{slot_width}
use Rattle.level_core.specs.declared.span.Span.{Span}
use Rattle.level_core.specs.declared.span.Entry.{Entry}
use Rattle.level_core.specs.Entries.{IsIn, StandsAt, coord_at, one}
use Rattle.level_core.specs.declared.letter.Letter.{Letter}
use Rattle.level_core.specs.Kinds.{properties, capabilities}
use Rattle.level_core.specs.Meaning.{Meaning}
use Rattle.level_core.specs.Orders.{InOrder}
use Rattle.level_rows.specs.Rows.{place}
use Rattle.level_rows.specs.Stacks.{Column, rows_in}
use Rattle.level_rows.specs.Taken.{Stores}
use Rattle.tensor_storage.specs.Chains.{chain_length}
use Rattle.tensor_storage.specs.Counts.{greatest_below}
use Rattle.tensor_storage.specs.Tables.{Table, begins_at}

-- how many positions each column's level has
abbrev pub counts_of : List Column → List ℕ
counts_of columns = map (λ column. column.positions) columns

-- the level numbered d keeps the rules of its kind, and stores the rows of the table below so many parents: each row's coordinate
-- stands at its place, and nothing else where the level isn't dense. A row begins a position where its coordinates at the first n
-- levels differ from those of the row before. Where the level is appended to, positions are numbered in the order of the rows;
-- where its coordinates stand without order, a block is as wide as the greatest number of coordinates that rows have below one
-- parent wants it, and each coordinate is sought past smaller ones alone
pub record IsBuilt {L : Type 0} (means : Meaning L) (table : Table) (d n : ℕ) (parent : ℕ → ℕ) (parents : ℕ)
    (column : Column) (l : L) : Type 0 where
  pub coord : column.coord ≡ table.coords d
  pub first : column.first ≡ begins_at table.coords n
  pub keeps : means.keeps l
  pub stores : Stores means parents column.positions (rows_in table.count parent column) column.place l
  pub numbered : (capabilities (means.kind l)).append ≡ true → (i : ℕ) → i < table.count → column.place i ≡ place column.first i
  pub width : (properties (means.kind l)).ordered ≡ false
      → means.width l ≡ Some (slot_width (greatest_below table.coords d table.count table.count))
  pub order : (properties (means.kind l)).ordered ≡ false → (p : ℕ) → p < parents → InOrder means l p

-- so is each level from the one numbered d on, whose parents are the places of the rows at the level above
abbrev pub AreBuilt : {L : Type 0} → Meaning L → Table → ℕ → (ℕ → ℕ) → ℕ → List Letter → List L → List Column → Type 0
AreBuilt means table d parent parents letters [] [] = Unit {0}
AreBuilt means table d parent parents letters [] (column ∷ columns) = ⊥
AreBuilt means table d parent parents letters (l ∷ ls) [] = ⊥
AreBuilt means table d parent parents [] (l ∷ ls) (column ∷ columns) = ⊥
AreBuilt means table d parent parents (letter ∷ letters) (l ∷ ls) (column ∷ columns) =
    IsBuilt means table d (d + chain_length (letter ∷ letters)) parent parents column l
    × AreBuilt means table (suc d) column.place column.positions letters ls columns

-- of levels with so many positions each, the level that stands below k others stores a coordinate at the position; dense levels store
-- none
abbrev pub IsStoredAt : {L : Type 0} → Meaning L → ℕ → List L → List ℕ → ℕ → ℕ → Type 0
IsStoredAt means parents [] ns k pos = ⊥
IsStoredAt means parents (l ∷ ls) [] k pos = ⊥
IsStoredAt means parents (l ∷ ls) (n ∷ ns) zero pos =
    ((properties (means.kind l)).full ≡ false)
    × ((p : ℕ) × (p < parents) × IsIn pos (means.segment_of l (one p)) × (coord_at (means.entries l (one p)) pos ≢ None))
IsStoredAt means parents (l ∷ ls) (n ∷ ns) (suc k) pos = IsStoredAt means n ls ns k pos

-- the path with these coordinates, below the span, goes over the position at the level that stands below k others
abbrev pub GoesOver : {L : Type 0} → Meaning L → List L → Span → List ℕ → ℕ → ℕ → Type 0
GoesOver means [] span xs k pos = ⊥
GoesOver means (l ∷ ls) span [] k pos = ⊥
GoesOver means (l ∷ ls) span (x ∷ xs) zero pos =
    (e : Entry) × StandsAt e.child.lo e (means.entries l span) × (e.coord ≡ x) × IsIn pos e.child
GoesOver means (l ∷ ls) span (x ∷ xs) (suc k) pos =
    (e : Entry) × StandsAt e.child.lo e (means.entries l span) × (e.coord ≡ x) × GoesOver means ls e.child xs k pos
