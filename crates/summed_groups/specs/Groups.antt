-- Rows that come in groups, which have their first coordinates in common.
use Rattle.std.specs.Prelude.{ℕ, List, ◌++◌, map, take}
use Rattle.lists.specs.Each.{Each}
use Rattle.tensor_map.specs.Order.{IsBefore}
use Rattle.tensor_map.specs.Entries.{Entry}

-- the first n of some coordinates come before the first n of others
abbrev pub ComesBefore : ℕ → List ℕ → List ℕ → Type 0
ComesBefore n xs ys = IsBefore (take n xs) (take n ys)

-- each row comes before these coordinates
abbrev pub AllBefore : ℕ → List Entry → List ℕ → Type 0
AllBefore n rows coords = Each (λ (row : Entry). ComesBefore n row.coords coords) rows

-- each of these rows comes before each of those
abbrev pub GroupsBefore : ℕ → List Entry → List Entry → Type 0
GroupsBefore n rows others = Each (λ (other : Entry). AllBefore n rows other.coords) others

-- a row with coordinates in front of its own
abbrev pub with_front : List ℕ → Entry → Entry
with_front front row = record { coords = front ++ row.coords; value = row.value }

abbrev pub with_fronts : List ℕ → List Entry → List Entry
with_fronts front rows = map (with_front front) rows
