-- Entries of a tensor in a row, and the tensor that they stand for: at a coordinate list the sum of the values
-- of all entries that have it, and beside that the coordinate lists that some entry has. This is how the FROSTT
-- page and NISTIR 5935 (section 'Coordinate Format') read a list of entries.
use Rattle.std.specs.Prelude.{◌≡◌, ◌≢◌, ℕ, ◌+◌, ◌^◌, ◌<◌, ◌≤◌, Bool, max, nat_eq, not, List}
use Rattle.std.specs.Prelude.{[], ◌∷◌, length, map, filter, All, ◌⊎◌, ◌↔◌, slice_index}
use Rattle.std.specs.Prelude.{slice_index_or}
use Rattle.std.specs.Cmp.Lexicographic.{pointwise}
use Rattle.limits.specs.Limits.{greatest_order}
use Rattle.numbers.specs.Arithmetic.{Arithmetic}
use Rattle.numbers.specs.Sums.{total_of}
use Rattle.tensor_map.specs.Order.{IsBefore, Increasing}

-- the coordinates of an entry, counted from 0, one a mode, and the value there
pub record Entry : Type 0 where
  pub coords : List ℕ
  pub value : ℕ

-- the number of modes, and the entries in their order
pub record Entries : Type 0 where
  pub order : ℕ
  pub list : List Entry

-- the entry has a coordinate for each mode, and all its numbers are words
pub record IsEntry (order : ℕ) (entry : Entry) : Type 0 where
  pub long : length entry.coords ≡ order
  pub words : All (λ coordinate. coordinate < 2 ^ 64) entry.coords
  pub word : entry.value < 2 ^ 64

-- what is true of all entries in a row
pub record AreEntries (entries : Entries) : Type 0 where
  pub short : entries.order ≤ greatest_order
  pub each : All (IsEntry entries.order) entries.list

-- the coordinate lists of the entries
abbrev pub coords_of : List Entry → List (List ℕ)
coords_of entries = map (λ entry. entry.coords) entries

-- whether the entry has these coordinates
abbrev pub is_at : List ℕ → Entry → Bool
is_at coords entry = pointwise nat_eq entry.coords coords

-- the values of all entries with these coordinates
abbrev pub values_at : List Entry → List ℕ → List ℕ
values_at entries coords = map (λ entry. entry.value) (filter (is_at coords) entries)

-- their sum
abbrev pub value_at : Arithmetic → List Entry → List ℕ → ℕ
value_at a entries coords = total_of a (values_at entries coords)

-- some entry has these coordinates
abbrev pub Listed : List Entry → List ℕ → Type 0
Listed [] coords = ⊥
Listed (entry ∷ entries) coords = (entry.coords ≡ coords) ⊎ Listed entries coords

-- the new row has the old one's value at each coordinate list
abbrev pub SameValues : Arithmetic → List Entry → List Entry → Type 0
SameValues a old new = (coords : List ℕ) → value_at a new coords ≡ value_at a old coords

-- and the same coordinate lists listed
abbrev pub SameListed : List Entry → List Entry → Type 0
SameListed old new = (coords : List ℕ) → Listed new coords ↔ Listed old coords

-- the entries stand in the order of their coordinates, and no two have the same
abbrev pub StrictlyIncreasing : List Entry → Type 0
StrictlyIncreasing entries = Increasing (coords_of entries)

-- whether the entry's value is another than zero
abbrev pub is_nonzero : Arithmetic → Entry → Bool
is_nonzero a entry = not (nat_eq entry.value a.zero)

-- no entry's value is zero
abbrev pub NoneIsZero : Arithmetic → List Entry → Type 0
NoneIsZero a entries = All (λ entry. entry.value ≢ a.zero) entries

-- there are entries, some has this coordinate in the mode, and none has a greater one
pub record IsGreatest (entries : List Entry) (mode coordinate : ℕ) : Type 0 where
  pub found : (k : ℕ) × (k < length entries) × ((d : Entry) → slice_index (slice_index_or entries k d).coords mode ≡ coordinate)
  pub most : All (λ entry. slice_index entry.coords mode ≤ coordinate) entries

-- the coordinates are after those of the last entry, if there is one
abbrev pub ComeLast : List Entry → List ℕ → Type 0
ComeLast entries coords = (k : ℕ) (d : Entry) → k + 1 ≡ length entries → IsBefore (slice_index_or entries k d).coords coords

-- the coordinates of all entries in a mode, one after another
abbrev pub column_in : List Entry → ℕ → List ℕ
column_in entries mode = map (λ entry. slice_index entry.coords mode) entries

-- the values of all entries, one after another
abbrev pub values_in : List Entry → List ℕ
values_in entries = map (λ entry. entry.value) entries

-- the greatest of the entries' coordinates in a mode, and 0 where there is no entry
abbrev pub greatest_in : List Entry → ℕ → ℕ
greatest_in [] mode = 0
greatest_in (entry ∷ entries) mode = max (slice_index entry.coords mode) (greatest_in entries mode)

-- what is noted beside a row of entries is true of them
pub record AreNoted (entries : Entries) (greatest : List ℕ) : Type 0 where
  pub row : AreEntries entries
  pub most : (mode : ℕ) → slice_index greatest mode ≡ greatest_in entries.list mode
