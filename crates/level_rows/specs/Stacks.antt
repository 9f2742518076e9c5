-- Levels one below another that store the same rows, and the paths through them.
use Rattle.std.specs.Prelude.{◌≡◌, ℕ, suc, ◌+◌, ◌≤◌, ◌<◌, not, Bool, true, false, List, [], ◌∷◌}
use Rattle.level_core.specs.declared.span.Span.{Span}
use Rattle.level_core.specs.declared.span.Entry.{Entry}
use Rattle.level_core.specs.Entries.{StandsAt, one}
use Rattle.level_core.specs.Kinds.{properties}
use Rattle.level_core.specs.Logs.{gap}
use Rattle.level_core.specs.Meaning.{Meaning}
use Rattle.level_rows.specs.Rows.{Rows}
use Rattle.level_rows.specs.Taken.{Asked, Stores}

-- a path through levels: at each a coordinate below the span that was reached; the last span is one position
abbrev pub Path : {L : Type 0} → Meaning L → List L → Span → List ℕ → ℕ → Type 0
Path means [] span [] pos = span ≡ one pos
Path means [] span (x ∷ xs) pos = ⊥
Path means (l ∷ ls) span [] pos = ⊥
Path means (l ∷ ls) span (x ∷ xs) pos =
    (e : Entry) × StandsAt e.child.lo e (means.entries l span) × (e.coord ≡ x) × Path means ls e.child xs pos

-- of each row, at a level: the coordinate, whether it begins a position, and its position; and how many positions the level has
pub record Column : Type 0 where
  pub coord : ℕ → ℕ
  pub first : ℕ → Bool
  pub place : ℕ → ℕ
  pub positions : ℕ

-- the rows that a level is given below the places of the level above
abbrev pub rows_in : ℕ → (ℕ → ℕ) → Column → Rows
rows_in count parent column = record { count = count; parent = parent; coord = column.coord; first = column.first }

-- each level stores the rows at the places that they have at the level above; its parents are that level's positions
abbrev pub Stacked : {L : Type 0} → Meaning L → ℕ → List L → List Column → (ℕ → ℕ) → ℕ → Type 0
Stacked means count [] [] parent parents = Unit {0}
Stacked means count [] (column ∷ columns) parent parents = ⊥
Stacked means count (l ∷ ls) [] parent parents = ⊥
Stacked means count (l ∷ ls) (column ∷ columns) parent parents =
    Stores means parents column.positions (rows_in count parent column) column.place l
    × Stacked means count ls columns column.place column.positions

-- a level is branchless exactly where the one above has groups
abbrev pub AreChained : {L : Type 0} → Meaning L → Bool → List L → Type 0
AreChained means groups [] = groups ≡ false
AreChained means groups (l ∷ ls) =
    ((properties (means.kind l)).branchless ≡ groups) × AreChained means (not (properties (means.kind l)).unique) ls

-- a row's coordinate is no smaller than that of the row before, and greater where it begins a position of a unique level
pub record Rises (column : Column) (unique : Bool) (i : ℕ) : Type 0 where
  pub follows : column.coord i ≤ column.coord (suc i)
  pub apart : column.first (suc i) ≡ true → column.coord i + gap unique ≤ column.coord (suc i)

-- the rows are sorted: of two in a row that have the same coordinates at the levels above, the second has no smaller coordinate,
-- and a greater one where it begins a position of a unique level
abbrev pub AreSorted : {L : Type 0} → Meaning L → ℕ → List L → List Column → (ℕ → Type 0) → Type 0
AreSorted means count [] columns same = Unit {0}
AreSorted means count (l ∷ ls) [] same = ⊥
AreSorted means count (l ∷ ls) (column ∷ columns) same =
    ((i : ℕ) → suc i < count → same i → Rises column (properties (means.kind l)).unique i)
    × AreSorted means count ls columns (λ i. same i × (column.coord i ≡ column.coord (suc i)))

-- the paths that a set of rows makes: at a full level each coordinate below the range, at any other the coordinates of those rows
-- that begin like the path
abbrev pub IsPath : {L : Type 0} → Meaning L → ℕ → List L → List Column → (ℕ → Type 0) → List ℕ → Type 0
IsPath means count [] [] begins [] = Unit {0}
IsPath means count (l ∷ ls) (column ∷ columns) begins (x ∷ xs) =
    ((properties (means.kind l)).full ≡ true → x < means.size l)
    × ((properties (means.kind l)).full ≡ false → (i : ℕ) × (i < count) × begins i × (column.coord i ≡ x))
    × IsPath means count ls columns (λ i. begins i × (column.coord i ≡ x)) xs
IsPath means count _ _ begins _ = ⊥

-- the coordinates of a row
abbrev pub coords_of : List Column → ℕ → List ℕ
coords_of [] i = []
coords_of (column ∷ columns) i = column.coord i ∷ coords_of columns i

-- the places of rows at the last level, and how many positions it has
abbrev pub last_place : List Column → (ℕ → ℕ) → ℕ → ℕ
last_place [] parent = parent
last_place (column ∷ columns) parent = last_place columns column.place

abbrev pub last_positions : List Column → ℕ → ℕ
last_positions [] parents = parents
last_positions (column ∷ columns) parents = last_positions columns column.positions

-- the span may be asked of the first level; behind the last it is one position
abbrev pub MayAsk : {L : Type 0} → Meaning L → List L → ℕ → Span → Type 0
MayAsk means [] parents span = (span.hi ≡ span.lo + 1) × (span.lo < parents)
MayAsk means (l ∷ ls) parents span = Asked means l parents span

-- below each path the span may be asked
abbrev pub AreNested : {L : Type 0} → Meaning L → List L → List Column → ℕ → Span → Type 0
AreNested means [] [] parents span = MayAsk means [] parents span
AreNested means (l ∷ ls) (column ∷ columns) parents span =
    Asked means l parents span
    × ((e : Entry) → StandsAt e.child.lo e (means.entries l span) → AreNested means ls columns column.positions e.child)
AreNested means _ _ parents span = ⊥

-- what stacked levels that store rows tell of their paths: below each the span may be asked, each row has its own, they are those
-- that the rows make, each once, and a row has a path's
-- coordinates exactly where its place at the last level is the path's position
pub record TellsPaths {L : Type 0} (means : Meaning L) (count : ℕ) (levels : List L) (columns : List Column) : Type 0 where
  pub nested : AreNested means levels columns 1 (one 0)
  pub own : (i : ℕ) → i < count → Path means levels (one 0) (coords_of columns i) (last_place columns (λ i. 0) i)
  pub made : (xs : List ℕ) (pos : ℕ) → Path means levels (one 0) xs pos → IsPath means count levels columns (λ i. i < count) xs
  pub there : (xs : List ℕ) → IsPath means count levels columns (λ i. i < count) xs → (pos : ℕ) × Path means levels (one 0) xs pos
  pub once : (xs : List ℕ) (pos other : ℕ) → Path means levels (one 0) xs pos → Path means levels (one 0) xs other → pos ≡ other
  pub within : (xs : List ℕ) (pos : ℕ) → Path means levels (one 0) xs pos → pos < last_positions columns 1
  pub placed : (xs : List ℕ) (pos i : ℕ) → Path means levels (one 0) xs pos → i < count
      → coords_of columns i ≡ xs → last_place columns (λ i. 0) i ≡ pos
  pub back : (xs : List ℕ) (pos i : ℕ) → Path means levels (one 0) xs pos → i < count
      → last_place columns (λ i. 0) i ≡ pos → coords_of columns i ≡ xs

-- sorted rows in levels one below another tell their paths
abbrev pub StacksTellPaths : {L : Type 0} → Meaning L → Type 0
StacksTellPaths {L} means =
    (count : ℕ) (levels : List L) (columns : List Column)
    → Stacked means count levels columns (λ i. 0) 1 → AreChained means false levels
    → AreSorted means count levels columns (λ i. i < count) → TellsPaths means count levels columns
