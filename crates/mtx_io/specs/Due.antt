-- The entry lines that are still due while a file is read.
use Rattle.std.specs.Prelude.{ℕ, ◌+◌, ◌-◌, ◌<◌, Bool, true, false, List, [], ◌∷◌, ◌++◌, map, replicate, Option, Some, None}
use Rattle.mtx_io.specs.Places.{column_from, columns_from}
use Rattle.mtx_io.specs.Size.{Slot, Anywhere, Valued, At}
use Rattle.mtx_io.specs.declared.due.Due.{Due}
use Rattle.mtx_io.specs.declared.due.Due.TheVariants.{Entries, Values}
use Rattle.mtx_io.specs.declared.header.Header.{Header}
use Rattle.mtx_io.specs.declared.place.Place.{Place}

-- the place is one of the matrix
pub record IsWithin (header : Header) (place : Place) : Type 0 where
  pub row : place.row < header.rows
  pub column : place.column < header.columns

-- the places of an array from this one on: the rest of its column, and the columns behind it
abbrev pub places_left : Header → Place → List Place
places_left header place =
    column_from header.rows place.row place.column
    ++ columns_from header.symmetry header.rows (place.column + 1) (header.columns - (place.column + 1))

abbrev pub values_left : Header → Option Place → List Place
values_left header None = []
values_left header (Some place) = places_left header place

-- what the line of an entry is to tell: its place, and its value where that isn't known
abbrev pub slot_with : Option ℕ → Slot
slot_with None = Anywhere
slot_with (Some value) = Valued value

abbrev pub slots_of : Header → Due → List Slot
slots_of header (Entries count value) = replicate count (slot_with value)
slots_of header (Values next) = map At (values_left header next)

abbrev pub IsInside : Header → Due → Type 0
IsInside header (Entries count value) = Unit {0}
IsInside header (Values None) = Unit {0}
IsInside header (Values (Some place)) = IsWithin header place

abbrev pub is_nothing : List Slot → Bool
is_nothing [] = true
is_nothing (slot ∷ slots) = false
