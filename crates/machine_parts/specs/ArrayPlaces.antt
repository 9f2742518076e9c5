-- Numbers that are looked up: by a number, by two, and by the name of an array.
use Rattle.std.specs.Prelude.{ℕ, length, Option, Some, None, slice_get}
use Rattle.kernel_code.specs.declared.syntax.Arr.{Arr}
use Rattle.kernel_code.specs.declared.syntax.Arr.TheVariants.{Range, Values, Dimension, Ends, Coordinates, Width, Key, Sums}
use Rattle.kernel_code.specs.declared.syntax.Arr.TheVariants.{ListCoordinates, ListPositions}
use Rattle.machine_parts.specs.declared.tables.Table.{Table}
use Rattle.machine_parts.specs.declared.tables.PairTable.{PairTable}
use Rattle.machine_parts.specs.declared.array_places.ArrayPlaces.{ArrayPlaces}

-- the number that stands at a place, if any
abbrev pub kept_at : Option (Option ℕ) → Option ℕ
kept_at None = None
kept_at (Some v) = v

-- the number that a table has for a number
abbrev pub held : Table → ℕ → Option ℕ
held t x = kept_at (slice_get t.items.items x)

-- how many numbers have a place in a table, whether or not it has one for them
abbrev pub room_of : Table → ℕ
room_of t = length t.items.items

abbrev pub held_in : Option Table → ℕ → Option ℕ
held_in None y = None
held_in (Some t) y = held t y

-- the number that a table has for two numbers
abbrev pub held_pair : PairTable → ℕ → ℕ → Option ℕ
held_pair t x y = held_in (slice_get t.rows.items x) y

-- the place of the array of a name
abbrev pub place_in : ArrayPlaces → Arr → Option ℕ
place_in p Range = None
place_in p (Values n) = held p.values n
place_in p (Dimension n k) = None
place_in p (Ends n k) = held_pair p.ends n k
place_in p (Coordinates n k) = held_pair p.coordinates n k
place_in p (Width n k) = held_pair p.widths n k
place_in p (Key w key) = held_pair p.keys w key
place_in p (Sums w) = held p.sums w
place_in p (ListCoordinates g) = held p.list_coordinates g
place_in p (ListPositions g) = held p.list_positions g
