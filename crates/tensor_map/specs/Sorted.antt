-- The order in which entries are sorted.
use Rattle.std.specs.Prelude.{ℕ, Bool}
use Rattle.std.specs.Ordering.{nat_cmp, is_lt}
use Rattle.std.specs.Cmp.Lexicographic.{slice_cmp}
use Rattle.tensor_map.specs.Entries.{Entry}

-- whether the first entry's coordinates are before the second's
abbrev pub is_before : Entry → Entry → Bool
is_before left right = is_lt (slice_cmp nat_cmp left.coords right.coords)

-- an entry with another value
abbrev pub with_value : Entry → ℕ → Entry
with_value entry value = record { coords = entry.coords; value = value }
