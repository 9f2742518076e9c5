-- Rows that a tensor is packed from: coordinates in the order of the levels, in increasing order, each with a value.
use Rattle.std.specs.Prelude.{◌≡◌, ℕ, zero, suc, ◌<◌, ◌==◌, ◌&&◌, not, Bool, true, false, List, length, map, slice_index}
use Rattle.std.specs.List.{range_with_len}
use Rattle.level_rows.specs.Rows.{Keys}

-- how many rows, the coordinate of each at each level, counted from 0, and its value
pub record Table : Type 0 where
  pub count : ℕ
  pub coords : ℕ → ℕ → ℕ
  pub values : ℕ → ℕ

-- whether two rows have the same coordinates at the first n levels
abbrev pub agree : (ℕ → ℕ → ℕ) → ℕ → ℕ → ℕ → Bool
agree coords zero i j = true
agree coords (suc n) i j = agree coords n i j && (coords n i == coords n j)

-- whether a row is the first or differs from the row before at one of the first n levels
abbrev pub begins_at : (ℕ → ℕ → ℕ) → ℕ → ℕ → Bool
begins_at coords n zero = true
begins_at coords n (suc i) = not (agree coords n i (suc i))

-- the rows for the level numbered d, where positions are begun at each difference at the first n levels
abbrev pub keys_of : Table → ℕ → ℕ → Keys
keys_of table d n = record { count = table.count; coord = table.coords d; first = begins_at table.coords n }

-- the coordinates of all rows at the level numbered d, one after another
abbrev pub level_column : Table → ℕ → List ℕ
level_column table d = map (table.coords d) (range_with_len 0 table.count)

-- the values of all rows, one after another
abbrev pub row_values : Table → List ℕ
row_values table = map table.values (range_with_len 0 table.count)

-- each row differs from the next at one of the first n levels
abbrev pub AllApart : Table → ℕ → Type 0
AllApart table n = (i : ℕ) → suc i < table.count → agree table.coords n i (suc i) ≡ false

-- the coordinates of all rows are below the ranges of the levels
abbrev pub AreBelow : Table → List ℕ → Type 0
AreBelow table sizes = (d i : ℕ) → d < length sizes → i < table.count → table.coords d i < slice_index sizes d
