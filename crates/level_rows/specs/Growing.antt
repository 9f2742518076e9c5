-- Levels that are added one below another, each given the rows of a table.
use Rattle.std.specs.Prelude.{◌≡◌, ◌≢◌, ℕ, suc, ◌<◌, not, Bool, true, false, List, [], ◌∷◌, ◌++◌, length, slice_index}
use Rattle.level_core.specs.declared.letter.Letter.{Letter}
use Rattle.level_core.specs.Kinds.{properties}
use Rattle.level_core.specs.Meaning.{Meaning}
use Rattle.level_rows.specs.Rows.{Keys, rows_at, begun, MayAppendRows, MayInsertRows, AreTogether}
use Rattle.level_rows.specs.Taken.{Takes, AppendsRows}
use Rattle.level_rows.specs.Stacks.{Column, Stacked, TellsPaths, last_place, last_positions}
use Rattle.level_rows.specs.Tables.{Increase, ShareBy, NeverFall, AllPlaced, AreRowsOf, AreColumnsOf}

-- the column of rows that a level was given
abbrev pub column_of : Keys → List ℕ → ℕ → Column
column_of keys places positions = record { coord = keys.coord; first = keys.first; place = slice_index places; positions = positions }

-- a level is branchless exactly where the one above has groups, and the last has groups if that is so
abbrev pub ChainTo : {L : Type 0} → Meaning L → Bool → List L → Bool → Type 0
ChainTo means groups [] last = groups ≡ last
ChainTo means groups (l ∷ ls) last =
    ((properties (means.kind l)).branchless ≡ groups) × ChainTo means (not (properties (means.kind l)).unique) ls last

-- so many levels store the rows of a table, which share the positions of the last by their coordinates at the first levels; the last
-- may have groups, and all levels may have an order
pub record Growing {L : Type 0} (means : Meaning L) (coords : ℕ → ℕ → ℕ) (count d above : ℕ) (groups ordered : Bool)
    (levels : List L) (columns : List Column) (place : ℕ → ℕ) (parents : ℕ) : Type 0 where
  pub stacked : Stacked means count levels columns (λ i. 0) 1
  pub chained : ChainTo means false levels groups
  pub columns_are : AreColumnsOf means coords count levels columns 0
  pub depth : length levels ≡ d
  pub place_is : last_place columns (λ i. 0) ≡ place
  pub parents_are : last_positions columns 1 ≡ parents
  pub share : ShareBy coords above count parents place
  pub deep : groups ≡ true → d < above
  pub level : groups ≡ false → above ≡ d
  pub never_fall : ordered ≡ true → NeverFall count place
  pub all_placed : groups ≡ true → AllPlaced count parents place

-- the place of a level among those of a table: rows begin positions by their coordinates at the first n levels
pub record IsNext (letter : Letter) (d n above : ℕ) (groups : Bool) : Type 0 where
  pub branchless : (properties letter).branchless ≡ groups
  pub unique : (properties letter).unique ≡ true → n ≡ suc d
  pub chained : groups ≡ true → above ≡ n
  pub more : (properties letter).unique ≡ false → suc d < n

-- what is kept where the level numbered d is given the rows of a table: they may be appended or inserted, as the kind is, and then
-- one level more stores them
pub record Grows {L : Type 0} (means : Meaning L) (coords : ℕ → ℕ → ℕ) (keys : Keys) (d above parents : ℕ)
    (groups ordered : Bool) (levels : List L) (columns : List Column) (ps : List ℕ) : Type 0 where
  pub may_append : (letter : Letter) (n size : ℕ) → IsNext letter d n above groups → ordered ≡ true
      → AreRowsOf coords d n size (rows_at keys ps)
      → MayAppendRows letter size parents (rows_at keys ps)
  pub may_insert : (size : ℕ) → groups ≡ false
      → AreRowsOf coords d (suc d) size (rows_at keys ps) → MayInsertRows size parents (rows_at keys ps)
  pub together : AreTogether (rows_at keys ps)
  pub appended : (n size : ℕ) (places : List ℕ) (old new : L) → IsNext (means.kind old) d n above groups
      → AreRowsOf coords d n size (rows_at keys ps)
      → AppendsRows means parents (rows_at keys ps) places old new
      → Growing means coords keys.count (suc d) n (not (properties (means.kind old)).unique) ordered (levels ++ new ∷ [])
      (columns ++ column_of keys places (begun keys.first keys.count) ∷ []) (slice_index places) (begun keys.first keys.count)
  pub inserted : (n size positions : ℕ) (places : List ℕ) (old new : L) (ordered_then : Bool)
      → IsNext (means.kind old) d n above groups → groups ≡ false
      → (properties (means.kind old)).unique ≡ true
      → (ordered_then ≡ true → (ordered ≡ true) × ((properties (means.kind old)).ordered ≡ true))
      → AreRowsOf coords d n size (rows_at keys ps) → Takes means parents positions (rows_at keys ps) places old new
      → Growing means coords keys.count (suc d) n (not (properties (means.kind old)).unique) ordered_then (levels ++ new ∷ [])
      (columns ++ column_of keys places positions ∷ []) (slice_index places) positions

-- levels may be added below one another, from none on; all of them tell their paths, and no two rows have one position
pub record LevelsGrow {L : Type 0} (means : Meaning L) : Type 0 where
  pub none : (coords : ℕ → ℕ → ℕ) (count : ℕ) → Growing means coords count 0 0 false true [] [] (λ i. 0) 1
  pub next : (coords : ℕ → ℕ → ℕ) (order : ℕ) (keys : Keys) (d above parents : ℕ) (groups ordered : Bool) (levels : List L)
      (columns : List Column) (ps : List ℕ) → Increase coords order keys.count
      → Growing means coords keys.count d above groups ordered levels columns (slice_index ps) parents
      → Grows means coords keys d above parents groups ordered levels columns ps
  pub all : (coords : ℕ → ℕ → ℕ) (count order above : ℕ) (ordered : Bool) (levels : List L)
      (columns : List Column) (place : ℕ → ℕ) (positions : ℕ)
      → Increase coords order count → Growing means coords count order above false ordered levels columns place positions
      → TellsPaths means count levels columns
  pub apart : (coords : ℕ → ℕ → ℕ) (count order above : ℕ) (ordered : Bool) (levels : List L)
      (columns : List Column) (place : ℕ → ℕ) (positions : ℕ)
      → Increase coords order count → Growing means coords count order above false ordered levels columns place positions
      → (i j : ℕ) → i < j → j < count → place i ≢ place j
