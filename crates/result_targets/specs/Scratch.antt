-- Scratch lists beside a sink: code may fill them while the sink holds what it held.
use Rattle.std.specs.Prelude.{◌≡◌, ℕ, ◌≤◌, ◌<◌, Bool, true, false, List, Option, Some, None}
use Rattle.kernel_code.specs.declared.syntax.Arr.{Arr}
use Rattle.kernel_code.specs.declared.syntax.Arr.TheVariants.{Range, Values, Dimension, Ends, Coordinates, Width, Key, Sums}
use Rattle.kernel_code.specs.declared.syntax.Arr.TheVariants.{ListCoordinates, ListPositions}
use Rattle.kernel_code.specs.Meaning.{State}

-- whether the array is one of a scratch list
abbrev pub is_of_some_list : Arr → Bool
is_of_some_list Range = false
is_of_some_list (Values n) = false
is_of_some_list (Dimension n k) = false
is_of_some_list (Ends n k) = false
is_of_some_list (Coordinates n k) = false
is_of_some_list (Width n k) = false
is_of_some_list (Key n k) = false
is_of_some_list (Sums n) = false
is_of_some_list (ListCoordinates n) = true
is_of_some_list (ListPositions n) = true

-- there is such an array
abbrev pub IsThere : Option (List ℕ) → Type 0
IsThere None = ⊥
IsThere (Some xs) = Unit {0}

-- the second state has the arrays of the first, but that scratch lists which are there may have other rows
pub record SameButLists (s t : State) : Type 0 where
  pub same : (b : Arr) → is_of_some_list b ≡ false → t.arrays b ≡ s.arrays b
  pub there : (b : Arr) → is_of_some_list b ≡ true → IsThere (s.arrays b) → IsThere (t.arrays b)

-- the array is one of the scratch list of a number
abbrev pub IsOfList : ℕ → Arr → Type 0
IsOfList list Range = ⊥
IsOfList list (Values n) = ⊥
IsOfList list (Dimension n k) = ⊥
IsOfList list (Ends n k) = ⊥
IsOfList list (Coordinates n k) = ⊥
IsOfList list (Width n k) = ⊥
IsOfList list (Key n k) = ⊥
IsOfList list (Sums n) = ⊥
IsOfList list (ListCoordinates n) = n ≡ list
IsOfList list (ListPositions n) = n ≡ list

abbrev pub IsOffList : ℕ → Arr → Type 0
IsOffList list a = IsOfList list a → ⊥

-- the scratch list is there, whatever rows it has
pub record HasList (list : ℕ) (s : State) : Type 0 where
  pub coordinates : List ℕ
  pub positions : List ℕ
  pub coordinates_are : s.arrays (ListCoordinates list) ≡ Some coordinates
  pub positions_are : s.arrays (ListPositions list) ≡ Some positions

-- the array is one of a scratch list whose number is from the first one to the one before `past`
pub record IsOfLists (first past : ℕ) (a : Arr) : Type 0 where
  pub list : ℕ
  pub from : first ≤ list
  pub before : list < past
  pub of : IsOfList list a

abbrev pub IsOffLists : ℕ → ℕ → Arr → Type 0
IsOffLists first past a = IsOfLists first past a → ⊥

-- each of these lists is there, whatever rows it has
abbrev pub HasLists : ℕ → ℕ → State → Type 0
HasLists first past state = (list : ℕ) → first ≤ list → list < past → HasList list state
