-- What begun levels leave in the arrays.
use Rattle.std.specs.Prelude.{◌≡◌, ◌≢◌, ℕ, suc, ◌≤◌, Bool, true, false, if◌then◌else◌, List, [], ◌∷◌, Option, Some, None, replicate, refl}
use Rattle.std.proofs.Common.{◌∙◌, sym, ap, subst, arith}
use Rattle.kernel_code.specs.declared.syntax.Arr.{Arr}
use Rattle.kernel_code.specs.declared.syntax.Arr.TheVariants.{Range, Values, Dimension, Ends, Coordinates, Width, Key, Sums}
use Rattle.kernel_code.specs.declared.syntax.Arr.TheVariants.{ListCoordinates, ListPositions}
use Rattle.kernel_code.specs.Arrays.{same_arr}
use Rattle.kernel_code.specs.Meaning.{State, set_array}
use Rattle.kernel_code.proofs.ArrayNames.{same_arr_is, same_arr_self}
use Rattle.level_core.specs.declared.letter.Letter.{Letter}
use Rattle.level_core.specs.Fragments.{IsOf}
use Rattle.level_core.specs.Laws.{AreAtStart}
use Rattle.level_core.specs.Meaning.{Arrays}
use Rattle.level_core.specs.declared.arrays.LevelArray.{LevelArray}
use Rattle.level_core.specs.declared.arrays.LevelArray.TheVariants.{Dimension as OfSize, Ends as OfEnds}
use Rattle.level_core.specs.declared.arrays.LevelArray.TheVariants.{Coordinates as OfCoordinates, Width as OfWidth}
use Rattle.level_core.specs.Arrays.{array_of}
use Rattle.level_core.specs.Kinds.{properties, parents_below, zeros_at_start}
use Rattle.level_core.proofs.KindLaws.{of_level, starts_there}
use Rattle.machine_starts.specs.Begun.{filled_with, with_zeros, begun, begun_result, HasSizes, AreBegun}
use Rattle.machine_starts.proofs.Steps.{no_size}

-- an array that was set has these words, and others stay
pub set_here : (s : State) (a : Arr) (xs : List ℕ) → (set_array s a xs).arrays a ≡ Some xs
set_here s a xs = ap (λ t. if t then Some xs else s.arrays a) (same_arr_self a)

pub set_apart : (s : State) (a b : Arr) (xs : List ℕ) → same_arr a b ≡ false → (set_array s a xs).arrays b ≡ s.arrays b
set_apart s a b xs h = ap (λ t. if t then Some xs else s.arrays b) h

-- arrays of a level are others than those that aren't
not_same : (level : ℕ) (a b : Arr) → IsOf 0 level a → (IsOf 0 level b → ⊥) → same_arr a b ≡ false
not_same level a b is h = by (same_arr a b) refl
  where
    by : (t : Bool) → same_arr a b ≡ t → same_arr a b ≡ false
    by true e = absurd (h (subst (IsOf 0 level) (same_arr_is a b e) is))
    by false e = e

-- what is made of one array leaves the others
filled_apart : (count : Option ℕ) (array : LevelArray) (level : ℕ) (s : State) (b : Arr) → same_arr (array_of array 0 level) b ≡ false
    → (filled_with count array level s).arrays b ≡ s.arrays b
filled_apart None array level s b h = refl
filled_apart (Some n) array level s b h = set_apart s (array_of array 0 level) b (replicate n 0) h

filled_here : (count : Option ℕ) (array : LevelArray) (level n : ℕ) (s : State) → count ≡ Some n
    → (filled_with count array level s).arrays (array_of array 0 level) ≡ Some (replicate n 0)
filled_here None array level n s h = absurd (none_some h)
  where
    none_some : None ≡ Some n → ⊥
    none_some h = cc
filled_here (Some m) array level n s h =
    set_here s (array_of array 0 level) (replicate m 0) ∙ ap (λ k. Some (replicate k 0)) (same m n h)
  where
    same : (x y : ℕ) → Some x ≡ Some y → x ≡ y
    same x y h = cc

-- and so does what is made of a level
begun_apart : (letter : Letter) (parents level : ℕ) (s : State) (b : Arr) → ((array : LevelArray) → array ≢ OfSize
    → same_arr (array_of array 0 level) b ≡ false) → (begun letter parents level s).arrays b ≡ s.arrays b
begun_apart letter parents level s b h =
    let ends = with_zeros letter OfEnds parents level s in
    let widths = with_zeros letter OfWidth parents level ends in
    filled_apart (zeros_at_start letter OfCoordinates parents) OfCoordinates level widths b (h OfCoordinates (λ e. cc))
    ∙ filled_apart (zeros_at_start letter OfWidth parents) OfWidth level ends b (h OfWidth (λ e. cc))
    ∙ filled_apart (zeros_at_start letter OfEnds parents) OfEnds level s b (h OfEnds (λ e. cc))

-- it leaves the arrays of other levels
begun_beside : (letter : Letter) (parents level : ℕ) (s : State) (b : Arr) → (IsOf 0 level b → ⊥)
    → (begun letter parents level s).arrays b ≡ s.arrays b
begun_beside letter parents level s b h = begun_apart letter parents level s b (λ array _.
    not_same level (array_of array 0 level) b (of_level array 0 level) h)

-- and the ranges of all levels
begun_size : (letter : Letter) (parents level : ℕ) (s : State) (k : ℕ)
    → (begun letter parents level s).arrays (Dimension 0 k) ≡ s.arrays (Dimension 0 k)
begun_size letter parents level s k = begun_apart letter parents level s (Dimension 0 k) other
  where
    other : (array : LevelArray) → array ≢ OfSize → same_arr (array_of array 0 level) (Dimension 0 k) ≡ false
    other OfSize h = absurd (h refl)
    other OfEnds h = refl
    other OfWidth h = refl
    other OfCoordinates h = refl

-- a level that is begun is as a run starts it
begun_there : (letter : Letter) (n parents level : ℕ) (s : State)
    → ((properties letter).full ≡ true → s.arrays (Dimension 0 level) ≡ Some (n ∷ []))
    → AreAtStart letter n parents 0 level (begun letter parents level s).arrays
begun_there letter n parents level s dim =
    record { size = λ full. begun_size letter parents level s level ∙ dim full; zeros = zeros }
  where
    ends : State
    ends = with_zeros letter OfEnds parents level s

    widths : State
    widths = with_zeros letter OfWidth parents level ends

    zeros : (array : LevelArray) (count : ℕ) → zeros_at_start letter array parents ≡ Some count
        → (begun letter parents level s).arrays (array_of array 0 level) ≡ Some (replicate count 0)
    zeros OfSize count is = absurd (no_size letter parents count is)
    zeros OfEnds count is =
        filled_apart (zeros_at_start letter OfCoordinates parents) OfCoordinates level widths (Ends 0 level) refl
        ∙ filled_apart (zeros_at_start letter OfWidth parents) OfWidth level ends (Ends 0 level) refl
        ∙ filled_here (zeros_at_start letter OfEnds parents) OfEnds level count s is
    zeros OfWidth count is =
        filled_apart (zeros_at_start letter OfCoordinates parents) OfCoordinates level widths (Width 0 level) refl
        ∙ filled_here (zeros_at_start letter OfWidth parents) OfWidth level count ends is
    zeros OfCoordinates count is =
        filled_here (zeros_at_start letter OfCoordinates parents) OfCoordinates level count widths is

sizes_kept : (letter : Letter) (parents level : ℕ) (s : State) (letters : List Letter) (sizes : List ℕ) (k : ℕ)
    → HasSizes letters sizes k s.arrays → HasSizes letters sizes k (begun letter parents level s).arrays
sizes_kept letter parents level s [] sizes k h = tt
sizes_kept letter parents level s (below ∷ letters) [] k h = tt
sizes_kept letter parents level s (below ∷ letters) (size ∷ sizes) k h =
    (λ full. begun_size letter parents level s k ∙ h.0 full, sizes_kept letter parents level s letters sizes (suc k) h.1)

-- arrays of a level of the result from this number on
abbrev pub IsFrom : ℕ → Arr → Type 0
IsFrom level b = (k : ℕ) × (level ≤ k) × IsOf 0 k b

one_level : (b : Arr) (k level : ℕ) → IsOf 0 k b → IsOf 0 level b → k ≡ level
one_level Range k level h g = absurd h
one_level (Values n) k level h g = absurd h
one_level (Dimension n j) k level h g = sym h.1 ∙ g.1
one_level (Ends n j) k level h g = sym h.1 ∙ g.1
one_level (Coordinates n j) k level h g = sym h.1 ∙ g.1
one_level (Width n j) k level h g = sym h.1 ∙ g.1
one_level (Key n j) k level h g = absurd h
one_level (Sums n) k level h g = absurd h
one_level (ListCoordinates n) k level h g = absurd h
one_level (ListPositions n) k level h g = absurd h

not_values : (level : ℕ) (b : Arr) → IsOf 0 level b → same_arr (Values 0) b ≡ false
not_values level Range h = absurd h
not_values level (Values n) h = absurd h
not_values level (Dimension n j) h = refl
not_values level (Ends n j) h = refl
not_values level (Coordinates n j) h = refl
not_values level (Width n j) h = refl
not_values level (Key n j) h = absurd h
not_values level (Sums n) h = absurd h
not_values level (ListCoordinates n) h = absurd h
not_values level (ListPositions n) h = absurd h

-- arrays that are none of these levels', nor the values, stay
pub result_apart : (nothing : ℕ) (letters : List Letter) (sizes : List ℕ) (parents level : ℕ) (s : State) (b : Arr)
    → (IsFrom level b → ⊥) → same_arr (Values 0) b ≡ false → (begun_result nothing letters sizes parents level s).arrays b ≡ s.arrays b
result_apart nothing [] [] parents level s b h v = set_apart s (Values 0) b (replicate parents nothing) v
result_apart nothing [] (size ∷ sizes) parents level s b h v = set_apart s (Values 0) b (replicate parents nothing) v
result_apart nothing (letter ∷ letters) [] parents level s b h v = set_apart s (Values 0) b (replicate parents nothing) v
result_apart nothing (letter ∷ letters) (size ∷ sizes) parents level s b h v =
    result_apart nothing letters sizes (parents_below letter size parents) (suc level) (begun letter parents level s) b
    (λ f. h (f.0, omega (arith, f.1), f.2)) v
    ∙ begun_beside letter parents level s b (λ is. h (level, omega arith, is))

-- the levels and the values are as a run starts them
pub result_begun : (nothing : ℕ) (letters : List Letter) (sizes : List ℕ) (parents level : ℕ) (s : State)
    → HasSizes letters sizes level s.arrays → AreBegun nothing letters sizes parents level
    (begun_result nothing letters sizes parents level s).arrays
result_begun nothing [] [] parents level s h = set_here s (Values 0) (replicate parents nothing)
result_begun nothing [] (size ∷ sizes) parents level s h = set_here s (Values 0) (replicate parents nothing)
result_begun nothing (letter ∷ letters) [] parents level s h = set_here s (Values 0) (replicate parents nothing)
result_begun nothing (letter ∷ letters) (size ∷ sizes) parents level s h =
    let next : State = begun letter parents level s in
    let done : State = begun_result nothing letters sizes (parents_below letter size parents) (suc level) next in (
      starts_there letter size parents 0 level next.arrays done.arrays
          (λ x is. result_apart nothing letters sizes (parents_below letter size parents) (suc level) next x
          (λ f. let same = one_level x f.0 level f.2 is in omega (arith, same, f.1)) (not_values level x is))
          (begun_there letter size parents level s h.0),
      result_begun nothing letters sizes (parents_below letter size parents) (suc level) next
          (sizes_kept letter parents level s letters sizes (suc level) h.1),
    )
