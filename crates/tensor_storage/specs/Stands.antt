-- Which storage stands for a table of named coordinates and their values.
use Rattle.std.specs.Prelude.{◌≡◌, ℕ, suc, ◌<◌, true, false, List, [], ◌∷◌, length, map, slice_index}
use Rattle.level_core.specs.declared.letter.Letter.{Letter}
use Rattle.level_core.specs.Entries.{one}
use Rattle.level_core.specs.Kinds.{properties}
use Rattle.level_core.specs.Meaning.{Meaning}
use Rattle.level_rows.specs.Stacks.{Path, Column}
use Rattle.format_spec.specs.declared.format.FormatLevel.{FormatLevel}
use Rattle.format_spec.specs.Formats.{letters_of}
use Rattle.tensor_storage.specs.Built.{counts_of, AreBuilt, IsStoredAt, GoesOver}
use Rattle.tensor_storage.specs.Counts.{positions_from, positions_of, last_of, AreFew}
use Rattle.tensor_storage.specs.Levels.{meaning}
use Rattle.tensor_storage.specs.Storages.{Storage, IsOpen, in_level_order}
use Rattle.tensor_storage.specs.Tables.{Table}

-- the coordinates of a row at the levels from the one numbered d on
abbrev pub row_from : (ℕ → ℕ → ℕ) → ℕ → ℕ → List Letter → List ℕ
row_from coords i d [] = []
row_from coords i d (letter ∷ letters) = coords d i ∷ row_from coords i (suc d) letters

-- the paths that the rows of a table make under a format, from the level numbered d on, for the rows that begin like the path so far:
-- a dense level's coordinates below the range all follow; at any other level x follows exactly where one of these rows goes on with x
abbrev pub MakesPath : Table → ℕ → List Letter → List ℕ → (ℕ → Type 0) → List ℕ → Type 0
MakesPath table d [] sizes begins [] = Unit {0}
MakesPath table d (letter ∷ letters) (size ∷ sizes) begins (x ∷ xs) =
    ((properties letter).full ≡ true → x < size)
    × ((properties letter).full ≡ false → (i : ℕ) × (i < table.count) × begins i × (table.coords d i ≡ x))
    × MakesPath table (suc d) letters sizes (λ i. begins i × (table.coords d i ≡ x)) xs
MakesPath table d _ _ begins _ = ⊥

-- the levels keep their rules, store the rows and have as many positions as these tell, with one value each at the last; the paths of
-- the levels are those that the rows make, each once, below each the next level may be asked, and each coordinate that isn't at a
-- dense level is on one; each row's value stands where its path ends, and zero at every position where no row's path ends, also
-- at the end of a path whose coordinates no row has
pub record Stands {L : Type 0} (means : Meaning L) (zero : ℕ) (letters : List Letter) (sizes : List ℕ)
    (table : Table) (levels : List L) (values : List ℕ) : Type 0 where
  pub columns : List Column
  pub counted : counts_of columns ≡ positions_from table 0 1 letters sizes
  pub built : AreBuilt means table 0 (λ i. 0) 1 letters levels columns
  pub many : length values ≡ last_of 1 (positions_from table 0 1 letters sizes)
  pub opened : IsOpen means levels (length values) (one 0)
  pub made : (xs : List ℕ) (pos : ℕ) → Path means levels (one 0) xs pos → MakesPath table 0 letters sizes (λ i. i < table.count) xs
  pub there : (xs : List ℕ) → MakesPath table 0 letters sizes (λ i. i < table.count) xs → (pos : ℕ) × Path means levels (one 0) xs pos
  pub once : (xs : List ℕ) (pos other : ℕ) → Path means levels (one 0) xs pos → Path means levels (one 0) xs other → pos ≡ other
  pub alone : (k pos : ℕ) → IsStoredAt means 1 levels (positions_from table 0 1 letters sizes) k pos
      → (xs : List ℕ) × ((end : ℕ) × Path means levels (one 0) xs end) × GoesOver means levels (one 0) xs k pos
  pub stored : (i pos : ℕ) → i < table.count → Path means levels (one 0) (row_from table.coords i 0 letters) pos
      → slice_index values pos ≡ table.values i
  pub zeros : (pos : ℕ) → pos < length values
      → ((i : ℕ) → i < table.count → Path means levels (one 0) (row_from table.coords i 0 letters) pos → ⊥)
      → slice_index values pos ≡ zero
  pub unnamed : (xs : List ℕ) (pos : ℕ) → Path means levels (one 0) xs pos
      → ((i : ℕ) → i < table.count → row_from table.coords i 0 letters ≡ xs → ⊥) → slice_index values pos ≡ zero

-- the storage is of this format and these ranges of the modes, no level of which has more positions than may be, and stands for
-- the table
pub record IsPacked (zero : ℕ) (format : List FormatLevel) (ranges : List ℕ) (table : Table) (storage : Storage) : Type 0 where
  pub format_is : storage.format ≡ format
  pub sizes : map meaning.size storage.levels ≡ in_level_order format ranges
  pub few : AreFew (positions_of format ranges table)
  pub stands : Stands meaning zero (letters_of format) (in_level_order format ranges) table storage.levels storage.values
