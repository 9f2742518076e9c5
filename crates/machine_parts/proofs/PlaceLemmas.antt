-- The places of arrays after one more has a place.
use Rattle.std.specs.Prelude.{◌≡◌, ℕ, ◌<◌, ◌==◌, ◌&&◌, Bool, true, false, if◌then◌else◌, length, Result, Ok, Err, OnOk, Some}
use Rattle.std.specs.Prelude.{slice_get, slice_set, slice_index_or, refl}
use Rattle.std.specs.Vec.{with_item}
use Rattle.std.proofs.Common.{◌∙◌, sym, ap}
use Rattle.lists.proofs.Tests.{same_number}
use Rattle.kernel_code.specs.declared.syntax.Arr.{Arr}
use Rattle.kernel_code.specs.declared.syntax.Arr.TheVariants.{Range, Values, Dimension, Ends, Coordinates, Width, Key, Sums}
use Rattle.kernel_code.specs.declared.syntax.Arr.TheVariants.{ListCoordinates, ListPositions}
use Rattle.kernel_code.specs.Arrays.{same_arr}
use Rattle.machine_parts.specs.declared.tables.Table.{Table}
use Rattle.machine_parts.specs.declared.tables.PairTable.{PairTable}
use Rattle.machine_parts.specs.declared.array_places.ArrayPlaces.{ArrayPlaces}
use Rattle.machine_parts.specs.ArrayPlaces.{held, held_in, held_pair, place_in}
use Rattle.machine_parts.proofs.ListLemmas.{get_here, get_other, get_within, apart}

-- a table with one more number
abbrev pub Gains : Table → Table → ℕ → ℕ → Type 0
Gains old new x v = (y : ℕ) → held new y ≡ (if x == y then Some v else held old y)

abbrev pub GainsPair : PairTable → PairTable → ℕ → ℕ → ℕ → Type 0
GainsPair old new x y v = (m n : ℕ) → held_pair new m n ≡ (if (x == m) && (y == n) then Some v else held_pair old m n)

row_set : (mid : PairTable) (row new : Table) (x y v : ℕ) → x < length mid.rows.items → row ≡ slice_index_or mid.rows.items x row
    → Gains row new y v → GainsPair mid (record mid { rows = with_item mid.rows x new }) x y v
row_set mid row new x y v l is gains m n = by (x == m) refl
  where
    by : (t : Bool) → (x == m) ≡ t
        → held_in (slice_get (slice_set mid.rows.items x new) m) n ≡ (if t && (y == n) then Some v else held_pair mid m n)
    by true e =
        let here : x ≡ m = same_number x m e in
        ap (λ k. held_in (slice_get (slice_set mid.rows.items x new) k) n) (sym here)
        ∙ ap (λ o. held_in o n) (get_here mid.rows.items x new l)
        ∙ gains n
        ∙ ap (λ (t : Table). if y == n then Some v else held t n) is
        ∙ ap (λ o. if y == n then Some v else held_in o n) (sym (get_within mid.rows.items x row l))
        ∙ ap (λ k. if y == n then Some v else held_pair mid k n) here
    by false e = ap (λ o. held_in o n) (get_other mid.rows.items x m new (apart x m e))

-- a row of a table gains a number
pub row_gains : {A E : Type 0} (r : Result A E) (old mid : PairTable) (row new : Table) (x y v : ℕ)
    → ((m n : ℕ) → held_pair mid m n ≡ held_pair old m n) → x < length mid.rows.items → row ≡ slice_index_or mid.rows.items x row
    → OnOk r (Gains row new y v) → OnOk r (GainsPair old (record mid { rows = with_item mid.rows x new }) x y v)
row_gains (Ok a) old mid row new x y v same l is gains = λ m n. row_set mid row new x y v l is gains m n
    ∙ ap (λ o. if (x == m) && (y == n) then Some v else o) (same m n)
row_gains (Err e) old mid row new x y v same l is gains = tt

abbrev pub HasPlace : ArrayPlaces → ArrayPlaces → Arr → ℕ → Type 0
HasPlace old new a v = (b : Arr) → place_in new b ≡ (if same_arr a b then Some v else place_in old b)

pub values_gain : (p : ArrayPlaces) (t : Table) (x v : ℕ) → Gains p.values t x v → HasPlace p (record p { values = t }) (Values x) v
values_gain p t x v h Range = refl
values_gain p t x v h (Values m) = h m
values_gain p t x v h (Dimension m n) = refl
values_gain p t x v h (Ends m n) = refl
values_gain p t x v h (Coordinates m n) = refl
values_gain p t x v h (Width m n) = refl
values_gain p t x v h (Key m n) = refl
values_gain p t x v h (Sums m) = refl
values_gain p t x v h (ListCoordinates m) = refl
values_gain p t x v h (ListPositions m) = refl

pub ends_gain : (p : ArrayPlaces) (t : PairTable) (x y v : ℕ) → GainsPair p.ends t x y v → HasPlace p (record p { ends = t }) (Ends x y) v
ends_gain p t x y v h Range = refl
ends_gain p t x y v h (Values m) = refl
ends_gain p t x y v h (Dimension m n) = refl
ends_gain p t x y v h (Ends m n) = h m n
ends_gain p t x y v h (Coordinates m n) = refl
ends_gain p t x y v h (Width m n) = refl
ends_gain p t x y v h (Key m n) = refl
ends_gain p t x y v h (Sums m) = refl
ends_gain p t x y v h (ListCoordinates m) = refl
ends_gain p t x y v h (ListPositions m) = refl

pub coordinates_gain : (p : ArrayPlaces) (t : PairTable) (x y v : ℕ) → GainsPair p.coordinates t x y v
    → HasPlace p (record p { coordinates = t }) (Coordinates x y) v
coordinates_gain p t x y v h Range = refl
coordinates_gain p t x y v h (Values m) = refl
coordinates_gain p t x y v h (Dimension m n) = refl
coordinates_gain p t x y v h (Ends m n) = refl
coordinates_gain p t x y v h (Coordinates m n) = h m n
coordinates_gain p t x y v h (Width m n) = refl
coordinates_gain p t x y v h (Key m n) = refl
coordinates_gain p t x y v h (Sums m) = refl
coordinates_gain p t x y v h (ListCoordinates m) = refl
coordinates_gain p t x y v h (ListPositions m) = refl

pub widths_gain : (p : ArrayPlaces) (t : PairTable) (x y v : ℕ) → GainsPair p.widths t x y v
    → HasPlace p (record p { widths = t }) (Width x y) v
widths_gain p t x y v h Range = refl
widths_gain p t x y v h (Values m) = refl
widths_gain p t x y v h (Dimension m n) = refl
widths_gain p t x y v h (Ends m n) = refl
widths_gain p t x y v h (Coordinates m n) = refl
widths_gain p t x y v h (Width m n) = h m n
widths_gain p t x y v h (Key m n) = refl
widths_gain p t x y v h (Sums m) = refl
widths_gain p t x y v h (ListCoordinates m) = refl
widths_gain p t x y v h (ListPositions m) = refl

pub keys_gain : (p : ArrayPlaces) (t : PairTable) (x y v : ℕ) → GainsPair p.keys t x y v → HasPlace p (record p { keys = t }) (Key x y) v
keys_gain p t x y v h Range = refl
keys_gain p t x y v h (Values m) = refl
keys_gain p t x y v h (Dimension m n) = refl
keys_gain p t x y v h (Ends m n) = refl
keys_gain p t x y v h (Coordinates m n) = refl
keys_gain p t x y v h (Width m n) = refl
keys_gain p t x y v h (Key m n) = h m n
keys_gain p t x y v h (Sums m) = refl
keys_gain p t x y v h (ListCoordinates m) = refl
keys_gain p t x y v h (ListPositions m) = refl

pub sums_gain : (p : ArrayPlaces) (t : Table) (x v : ℕ) → Gains p.sums t x v → HasPlace p (record p { sums = t }) (Sums x) v
sums_gain p t x v h Range = refl
sums_gain p t x v h (Values m) = refl
sums_gain p t x v h (Dimension m n) = refl
sums_gain p t x v h (Ends m n) = refl
sums_gain p t x v h (Coordinates m n) = refl
sums_gain p t x v h (Width m n) = refl
sums_gain p t x v h (Key m n) = refl
sums_gain p t x v h (Sums m) = h m
sums_gain p t x v h (ListCoordinates m) = refl
sums_gain p t x v h (ListPositions m) = refl

pub list_coordinates_gain : (p : ArrayPlaces) (t : Table) (x v : ℕ) → Gains p.list_coordinates t x v
    → HasPlace p (record p { list_coordinates = t }) (ListCoordinates x) v
list_coordinates_gain p t x v h Range = refl
list_coordinates_gain p t x v h (Values m) = refl
list_coordinates_gain p t x v h (Dimension m n) = refl
list_coordinates_gain p t x v h (Ends m n) = refl
list_coordinates_gain p t x v h (Coordinates m n) = refl
list_coordinates_gain p t x v h (Width m n) = refl
list_coordinates_gain p t x v h (Key m n) = refl
list_coordinates_gain p t x v h (Sums m) = refl
list_coordinates_gain p t x v h (ListCoordinates m) = h m
list_coordinates_gain p t x v h (ListPositions m) = refl

pub list_positions_gain : (p : ArrayPlaces) (t : Table) (x v : ℕ) → Gains p.list_positions t x v
    → HasPlace p (record p { list_positions = t }) (ListPositions x) v
list_positions_gain p t x v h Range = refl
list_positions_gain p t x v h (Values m) = refl
list_positions_gain p t x v h (Dimension m n) = refl
list_positions_gain p t x v h (Ends m n) = refl
list_positions_gain p t x v h (Coordinates m n) = refl
list_positions_gain p t x v h (Width m n) = refl
list_positions_gain p t x v h (Key m n) = refl
list_positions_gain p t x v h (Sums m) = refl
list_positions_gain p t x v h (ListCoordinates m) = refl
list_positions_gain p t x v h (ListPositions m) = h m
