-- Entries as columns: of each mode the coordinates of all entries, and the values of all entries.
use Rattle.std.specs.Prelude.{◌≡◌, ℕ, suc, ◌<◌, ◌≤◌, List, [], ◌∷◌, length, map, slice_index, slice_index_or}
use Rattle.tensor_map.specs.Entries.{Entry}

-- the coordinates of the entry at a place; `numbers` has the list that a column is
abbrev pub row_of : {X : Type 0} → (X → List ℕ) → List X → ℕ → List ℕ
row_of numbers columns place = map (λ column. slice_index (numbers column) place) columns

-- the entries from a place on, of these values
abbrev pub rows_from : {X : Type 0} → (X → List ℕ) → List X → ℕ → List ℕ → List Entry
rows_from numbers columns place [] = []
rows_from numbers columns place (value ∷ values) =
    record { coords = row_of numbers columns place; value = value } ∷ rows_from numbers columns (suc place) values

-- all entries
abbrev pub rows_of : {X : Type 0} → (X → List ℕ) → List X → List ℕ → List Entry
rows_of numbers columns values = rows_from numbers columns 0 values

-- each column has so many numbers, or more
abbrev pub AreLong : {X : Type 0} → (X → List ℕ) → List X → ℕ → Type 0
AreLong {X} numbers columns count = (mode : ℕ) (d : X) → mode < length columns → count ≤ length (numbers (slice_index_or columns mode d))

-- the new column has so many numbers, which are those of the old one
pub record KeepsBelow (count : ℕ) (old new : List ℕ) : Type 0 where
  pub long : count ≤ length new
  pub same : (place : ℕ) → place < count → slice_index new place ≡ slice_index old place

-- each column has so many numbers, and at a place before them the coordinate of its mode
pub record HaveAt {X : Type 0} (numbers : X → List ℕ) (columns : List X) (place : ℕ) (coords : List ℕ) (long : ℕ) : Type 0 where
  pub within : place < long
  pub are_long : AreLong numbers columns long
  pub at : (mode : ℕ) (d : X) → mode < length columns → slice_index (numbers (slice_index_or columns mode d)) place ≡ slice_index
      coords mode
