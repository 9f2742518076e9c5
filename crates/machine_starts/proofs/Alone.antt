-- Arrays that no step makes: of a level of the result those that its kind doesn't have, and of levels that aren't there all.
use Rattle.std.specs.Prelude.{◌≡◌, ◌⊎◌, ℕ, zero, suc, ◌+◌, ◌≤◌, ◌<◌, Bool, true, false, List, [], ◌∷◌, length}
use Rattle.std.specs.Prelude.{Option, Some, None, slice_get}
use Rattle.std.specs.Prelude.{replicate, refl}
use Rattle.std.proofs.Common.{◌∙◌, sym, ap, subst, arith, inl, inr}
use Rattle.kernel_code.specs.declared.syntax.Arr.{Arr}
use Rattle.kernel_code.specs.declared.syntax.Arr.TheVariants.{Values, Dimension, Ends, Coordinates, Width}
use Rattle.kernel_code.specs.Arrays.{same_arr}
use Rattle.kernel_code.specs.Meaning.{State, set_array}
use Rattle.kernel_code.proofs.ArrayNames.{same_arr_is}
use Rattle.level_core.specs.declared.letter.Letter.{Letter}
use Rattle.level_core.specs.declared.arrays.LevelArray.{LevelArray}
use Rattle.level_core.specs.declared.arrays.LevelArray.TheVariants.{Dimension as OfSize, Ends as OfEnds}
use Rattle.level_core.specs.declared.arrays.LevelArray.TheVariants.{Coordinates as OfCoordinates, Width as OfWidth}
use Rattle.level_core.specs.Arrays.{array_of}
use Rattle.level_core.specs.Kinds.{parents_below, zeros_at_start}
use Rattle.machine_starts.specs.Begun.{filled_with, with_zeros, begun, begun_result, IsNotMade}
use Rattle.machine_starts.proofs.Begun.{set_apart}
use Rattle.machine_starts.proofs.Steps.{no_size as no_range}

-- a run makes no array of the range of a level
pub no_size : (letter : Letter) → IsNotMade letter OfSize
no_size letter parents = by (zeros_at_start letter OfSize parents) refl
  where
    by : (o : Option ℕ) → zeros_at_start letter OfSize parents ≡ o → zeros_at_start letter OfSize parents ≡ None
    by None e = e
    by (Some n) e = absurd (no_range letter parents n e)

-- a step leaves an array that it doesn't make, or that isn't its own
filled_lacks : (count : Option ℕ) (array : LevelArray) (level : ℕ) (s : State) (b : Arr)
    → (count ≡ None) ⊎ (same_arr (array_of array 0 level) b ≡ false) → (filled_with count array level s).arrays b ≡ s.arrays b
filled_lacks None array level s b h = refl
filled_lacks (Some n) array level s b (inl e) = absurd (cc)
filled_lacks (Some n) array level s b (inr h) = set_apart s (array_of array 0 level) b (replicate n 0) h

-- an array that no step of a level makes stays
layers : (letter : Letter) (parents level : ℕ) (s : State) (b : Arr)
    → (zeros_at_start letter OfEnds parents ≡ None) ⊎ (same_arr (array_of OfEnds 0 level) b ≡ false)
    → (zeros_at_start letter OfWidth parents ≡ None) ⊎ (same_arr (array_of OfWidth 0 level) b ≡ false)
    → (zeros_at_start letter OfCoordinates parents ≡ None) ⊎ (same_arr (array_of OfCoordinates 0 level) b ≡ false)
    → (begun letter parents level s).arrays b ≡ s.arrays b
layers letter parents level s b e w c =
    let ends = with_zeros letter OfEnds parents level s in
    let widths = with_zeros letter OfWidth parents level ends in
    filled_lacks (zeros_at_start letter OfCoordinates parents) OfCoordinates level widths b c
    ∙ filled_lacks (zeros_at_start letter OfWidth parents) OfWidth level ends b w
    ∙ filled_lacks (zeros_at_start letter OfEnds parents) OfEnds level s b e

-- a level is begun without the arrays that its kind doesn't have
begun_lacks : (letter : Letter) (array : LevelArray) (parents level : ℕ) (s : State) → IsNotMade letter array
    → (begun letter parents level s).arrays (array_of array 0 level) ≡ s.arrays (array_of array 0 level)
begun_lacks letter OfSize parents level s none = layers letter parents level s (Dimension 0 level) (inr refl) (inr refl) (inr refl)
begun_lacks letter OfEnds parents level s none = layers letter parents level s (Ends 0 level) (inl (none parents)) (inr refl) (inr refl)
begun_lacks letter OfWidth parents level s none = layers letter parents level s (Width 0 level) (inr refl) (inl (none parents)) (inr refl)
begun_lacks letter OfCoordinates parents level s none =
    layers letter parents level s (Coordinates 0 level) (inr refl) (inr refl) (inl (none parents))

-- arrays of two levels are two
abbrev number : Arr → ℕ
number (Dimension n k) = k
number (Ends n k) = k
number (Width n k) = k
number (Coordinates n k) = k
number _ = 0

number_is : (array : LevelArray) (k : ℕ) → number (array_of array 0 k) ≡ k
number_is OfSize k = refl
number_is OfEnds k = refl
number_is OfWidth k = refl
number_is OfCoordinates k = refl

two_levels : (a b : LevelArray) (j k : ℕ) → (j ≡ k → ⊥) → same_arr (array_of a 0 j) (array_of b 0 k) ≡ false
two_levels a b j k apart = by (same_arr (array_of a 0 j) (array_of b 0 k)) refl
  where
    by : (t : Bool) → same_arr (array_of a 0 j) (array_of b 0 k) ≡ t → same_arr (array_of a 0 j) (array_of b 0 k) ≡ false
    by true e =
        absurd (apart (sym (number_is a j) ∙ ap number (same_arr_is (array_of a 0 j) (array_of b 0 k) e) ∙ number_is b k))
    by false e = e

begun_others : (letter : Letter) (array : LevelArray) (parents level k : ℕ) (s : State) → (level ≡ k → ⊥)
    → (begun letter parents level s).arrays (array_of array 0 k) ≡ s.arrays (array_of array 0 k)
begun_others letter array parents level k s apart =
    layers letter parents level s (array_of array 0 k) (inr (two_levels OfEnds array level k apart))
    (inr (two_levels OfWidth array level k apart)) (inr (two_levels OfCoordinates array level k apart))

no_values : (array : LevelArray) (k : ℕ) → same_arr (Values 0) (array_of array 0 k) ≡ false
no_values OfSize k = refl
no_values OfEnds k = refl
no_values OfWidth k = refl
no_values OfCoordinates k = refl

values_apart : (nothing parents : ℕ) (s : State) (array : LevelArray) (k : ℕ)
    → (set_array s (Values 0) (replicate parents nothing)).arrays (array_of array 0 k) ≡ s.arrays (array_of array 0 k)
values_apart nothing parents s array k =
    set_apart s (Values 0) (array_of array 0 k) (replicate parents nothing) (no_values array k)

-- levels before the first that is begun stay
pub result_above : (nothing : ℕ) (letters : List Letter) (sizes : List ℕ) (parents level k : ℕ) (s : State) (array : LevelArray) → k < level
    → (begun_result nothing letters sizes parents level s).arrays (array_of array 0 k) ≡ s.arrays (array_of array 0 k)
result_above nothing [] sizes parents level k s array l = values_apart nothing parents s array k
result_above nothing (first ∷ letters) [] parents level k s array l = values_apart nothing parents s array k
result_above nothing (first ∷ letters) (size ∷ sizes) parents level k s array l =
    result_above nothing letters sizes (parents_below first size parents) (suc level) k (begun first parents level s) array (omega arith)
    ∙ begun_others first array parents level k s (λ e. omega (arith, e))

-- so do those behind the last
pub result_behind : (nothing : ℕ) (letters : List Letter) (sizes : List ℕ) (parents level k : ℕ) (s : State) (array : LevelArray)
    → level + length letters ≤ k
    → (begun_result nothing letters sizes parents level s).arrays (array_of array 0 k) ≡ s.arrays (array_of array 0 k)
result_behind nothing [] sizes parents level k s array l = values_apart nothing parents s array k
result_behind nothing (first ∷ letters) [] parents level k s array l = values_apart nothing parents s array k
result_behind nothing (first ∷ letters) (size ∷ sizes) parents level k s array l =
    result_behind nothing letters sizes (parents_below first size parents) (suc level) k (begun first parents level s) array (omega arith)
    ∙ begun_others first array parents level k s (λ e. omega (arith, e))

-- and what the kind of a level doesn't have
pub result_lacks : (nothing : ℕ) (letters : List Letter) (sizes : List ℕ) (parents level i : ℕ) (s : State) (letter : Letter)
    (array : LevelArray) → slice_get letters i ≡ Some letter → IsNotMade letter array
    → (begun_result nothing letters sizes parents level s).arrays (array_of array 0 (level + i)) ≡ s.arrays (array_of array 0 (level + i))
result_lacks nothing [] sizes parents level i s letter array is none = absurd (cc)
result_lacks nothing (first ∷ letters) [] parents level i s letter array is none = values_apart nothing parents s array (level + i)
result_lacks nothing (first ∷ letters) (size ∷ sizes) parents level zero s letter array is none =
    let here : level + 0 ≡ level = omega arith in
    let lacks : IsNotMade first array = subst (λ l. IsNotMade l array) (sym (first_is first letter is)) none in
    result_above nothing letters sizes (parents_below first size parents) (suc level) (level + 0) (begun first parents level s) array
    (omega arith)
    ∙ ap (λ k. (begun first parents level s).arrays (array_of array 0 k)) here
    ∙ begun_lacks first array parents level s lacks
    ∙ ap (λ k. s.arrays (array_of array 0 k)) (sym here)
  where
    first_is : (x y : Letter) → Some x ≡ Some y → x ≡ y
    first_is x y e = cc
result_lacks nothing (first ∷ letters) (size ∷ sizes) parents level (suc i) s letter array is none =
    let next : level + suc i ≡ suc level + i = omega arith in
    let begun_here : State = begun first parents level s in
    let all : State = begun_result nothing letters sizes (parents_below first size parents) (suc level) begun_here in
    ap (λ k. all.arrays (array_of array 0 k)) next
    ∙ result_lacks nothing letters sizes (parents_below first size parents) (suc level) i begun_here letter array is none
    ∙ begun_others first array parents level (suc level + i) s (λ e. omega (arith, e))
    ∙ ap (λ k. s.arrays (array_of array 0 k)) (sym next)
