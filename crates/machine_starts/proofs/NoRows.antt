-- What empty workspaces and scratch lists leave in the arrays.
use Rattle.std.specs.Prelude.{◌≡◌, ◌⊎◌, ℕ, zero, suc, ◌+◌, ◌≤◌, Bool, true, false, nat_lt, List, [], ◌∷◌, length}
use Rattle.std.specs.Prelude.{Some, None, slice_index, refl}
use Rattle.std.proofs.Common.{◌∙◌, sym, ap, arith, inl, inr}
use Rattle.std.proofs.lemmas.Bool.Decides.{nat_tests}
use Rattle.kernel_code.specs.declared.syntax.Arr.{Arr}
use Rattle.kernel_code.specs.declared.syntax.Arr.TheVariants.{Range, Values, Dimension, Ends, Coordinates, Width, Key, Sums}
use Rattle.kernel_code.specs.declared.syntax.Arr.TheVariants.{ListCoordinates, ListPositions}
use Rattle.kernel_code.specs.declared.syntax.Kernel.{Kernel}
use Rattle.kernel_code.specs.Arrays.{same_arr}
use Rattle.kernel_code.specs.Kernels.{empty_if, start_arrays}
use Rattle.kernel_code.specs.Arrays.{is_scratch}
use Rattle.kernel_code.specs.Meaning.{State, set_array}
use Rattle.kernel_code.proofs.ArrayNames.{same_arr_is}
use Rattle.machine_starts.specs.Begun.{with_keys, with_workspaces, with_lists}
use Rattle.machine_starts.proofs.Begun.{set_here, set_apart}

other_key : (w n v k : ℕ) → ((w ≡ v) → (n ≡ k) → ⊥) → same_arr (Key w n) (Key v k) ≡ false
other_key w n v k h = by (same_arr (Key w n) (Key v k)) refl
  where
    workspace : Arr → ℕ
    workspace (Key w n) = w
    workspace a = 0

    number : Arr → ℕ
    number (Key w n) = n
    number a = 0

    by : (t : Bool) → same_arr (Key w n) (Key v k) ≡ t → same_arr (Key w n) (Key v k) ≡ false
    by true e = let is = same_arr_is (Key w n) (Key v k) e in absurd (h (ap workspace is) (ap number is))
    by false e = e

other_sums : (w v : ℕ) → (w ≡ v → ⊥) → same_arr (Sums w) (Sums v) ≡ false
other_sums w v h = grind (arith, nat_tests)

other_coordinates : (w v : ℕ) → (w ≡ v → ⊥) → same_arr (ListCoordinates w) (ListCoordinates v) ≡ false
other_coordinates w v h = grind (arith, nat_tests)

other_positions : (w v : ℕ) → (w ≡ v → ⊥) → same_arr (ListPositions w) (ListPositions v) ≡ false
other_positions w v h = grind (arith, nat_tests)

-- one more is there
one_more_if : (k n : ℕ) → (n ≡ k → ⊥) → empty_if (nat_lt k n) ≡ empty_if (nat_lt k (suc n))
one_more_if k n h = ap empty_if (tests k n h)
  where
    tests : (k n : ℕ) → (n ≡ k → ⊥) → nat_lt k n ≡ nat_lt k (suc n)
    tests k n h = grind (arith, nat_tests)

here_if : (n : ℕ) → Some [] ≡ empty_if (nat_lt n (suc n))
here_if n = ap empty_if (sym (test n))
  where
    test : (n : ℕ) → nat_lt n (suc n) ≡ true
    test n = grind (arith, nat_tests)

none_if : (k : ℕ) → None ≡ empty_if (nat_lt k 0)
none_if k = ap empty_if (sym (test k))
  where
    test : (k : ℕ) → nat_lt k 0 ≡ false
    test k = grind (arith, nat_tests)

same_or_not : (n k : ℕ) → (n ≡ k) ⊎ (n ≡ k → ⊥)
same_or_not zero zero = inl refl
same_or_not zero (suc k) = inr (λ e. omega (arith, e))
same_or_not (suc n) zero = inr (λ e. omega (arith, e))
same_or_not (suc n) (suc k) = elim (same_or_not n k) [
  | inl e ↦ inl (ap suc e)
  | inr h ↦ inr (λ e. h (omega (arith, e)))
]

-- the keys of a workspace
keys_here : (w n k : ℕ) (s : State) → s.arrays (Key w k) ≡ None → (with_keys w n s).arrays (Key w k) ≡ empty_if (nat_lt k n)
keys_here w zero k s h = h ∙ none_if k
keys_here w (suc n) k s h = elim (same_or_not n k) [
  | inl e ↦ ap (λ j. (set_array (with_keys w n s) (Key w n) []).arrays (Key w j)) (sym e)
      ∙ set_here (with_keys w n s) (Key w n) [] ∙ here_if n ∙ ap (λ j. empty_if (nat_lt j (suc n))) e
  | inr apart ↦ set_apart (with_keys w n s) (Key w n) (Key w k) [] (other_key w n w k (λ e f. apart f))
      ∙ keys_here w n k s h ∙ one_more_if k n apart
]

-- other arrays
keys_apart : (w n : ℕ) (s : State) (a : Arr) → ((k : ℕ) → same_arr (Key w k) a ≡ false) → (with_keys w n s).arrays a ≡ s.arrays a
keys_apart w zero s a h = refl
keys_apart w (suc n) s a h = set_apart (with_keys w n s) (Key w n) a [] (h n) ∙ keys_apart w n s a h

workspaces_apart : (ws : List ℕ) (w : ℕ) (s : State) (a : Arr) → ((v k : ℕ) → w ≤ v → same_arr (Key v k) a ≡ false)
    → ((v : ℕ) → w ≤ v → same_arr (Sums v) a ≡ false) → (with_workspaces ws w s).arrays a ≡ s.arrays a
workspaces_apart [] w s a h g = refl
workspaces_apart (keys ∷ more) w s a h g =
    workspaces_apart more (suc w) (set_array (with_keys w keys s) (Sums w) []) a (λ v k l. h v k (omega arith)) (λ v l. g v (omega arith))
    ∙ set_apart (with_keys w keys s) (Sums w) a [] (g w (omega arith))
    ∙ keys_apart w keys s a (λ k. h w k (omega arith))

key_begun : (ws : List ℕ) (w i k : ℕ) (s : State) → s.arrays (Key (w + i) k) ≡ None
    → (with_workspaces ws w s).arrays (Key (w + i) k) ≡ empty_if (nat_lt k (slice_index ws i))
key_begun [] w i k s h = h ∙ none_if k
key_begun (keys ∷ more) w zero k s h =
    let here : w + 0 ≡ w = omega arith in
    let none : s.arrays (Key w k) ≡ None = ap (λ v. s.arrays (Key v k)) (sym here) ∙ h in
    ap (λ v. (with_workspaces (keys ∷ more) w s).arrays (Key v k)) here
    ∙ workspaces_apart more (suc w) (set_array (with_keys w keys s) (Sums w) []) (Key w k)
    (λ v j l. other_key v j w k (λ e f. omega (arith, e))) (λ v l. refl)
    ∙ keys_here w keys k s none
key_begun (keys ∷ more) w (suc i) k s h =
    let next : w + suc i ≡ suc w + i = omega arith in
    let begun : State = set_array (with_keys w keys s) (Sums w) [] in
    let none : begun.arrays (Key (suc w + i) k) ≡ None =
    keys_apart w keys s (Key (suc w + i) k) (λ j. other_key w j (suc w + i) k (λ e f. omega (arith, e)))
    ∙ ap (λ v. s.arrays (Key v k)) (sym next) ∙ h in
    ap (λ v. (with_workspaces (keys ∷ more) w s).arrays (Key v k)) next ∙ key_begun more (suc w) i k begun none

sums_begun : (ws : List ℕ) (w i : ℕ) (s : State) → s.arrays (Sums (w + i)) ≡ None
    → (with_workspaces ws w s).arrays (Sums (w + i)) ≡ empty_if (nat_lt i (length ws))
sums_begun [] w i s h = h ∙ none_if i
sums_begun (keys ∷ more) w zero s h =
    let here : w + 0 ≡ w = omega arith in
    ap (λ v. (with_workspaces (keys ∷ more) w s).arrays (Sums v)) here
    ∙ workspaces_apart more (suc w) (set_array (with_keys w keys s) (Sums w) []) (Sums w) (λ v j l. refl)
    (λ v l. other_sums v w (λ e. omega (arith, e)))
    ∙ set_here (with_keys w keys s) (Sums w) [] ∙ some_if (length more)
  where
    some_if : (n : ℕ) → Some [] ≡ empty_if (nat_lt 0 (suc n))
    some_if n = ap empty_if (sym (test n))
      where
        test : (n : ℕ) → nat_lt 0 (suc n) ≡ true
        test n = grind (arith, nat_tests)
sums_begun (keys ∷ more) w (suc i) s h =
    let next : w + suc i ≡ suc w + i = omega arith in
    let begun : State = set_array (with_keys w keys s) (Sums w) [] in
    let none : begun.arrays (Sums (suc w + i)) ≡ None =
    set_apart (with_keys w keys s) (Sums w) (Sums (suc w + i)) [] (other_sums w (suc w + i) (λ e. omega (arith, e)))
    ∙ keys_apart w keys s (Sums (suc w + i)) (λ j. refl)
    ∙ ap (λ v. s.arrays (Sums v)) (sym next) ∙ h in
    ap (λ v. (with_workspaces (keys ∷ more) w s).arrays (Sums v)) next ∙ sums_begun more (suc w) i begun none
    ∙ ap empty_if (fewer i (length more))
  where
    fewer : (i n : ℕ) → nat_lt i n ≡ nat_lt (suc i) (suc n)
    fewer i n = grind (arith, nat_tests)

-- scratch lists
lists_apart : (n : ℕ) (s : State) (a : Arr) → ((g : ℕ) → same_arr (ListCoordinates g) a ≡ false)
    → ((g : ℕ) → same_arr (ListPositions g) a ≡ false) → (with_lists n s).arrays a ≡ s.arrays a
lists_apart zero s a h g = refl
lists_apart (suc n) s a h g =
    set_apart (set_array (with_lists n s) (ListCoordinates n) []) (ListPositions n) a [] (g n)
    ∙ set_apart (with_lists n s) (ListCoordinates n) a [] (h n) ∙ lists_apart n s a h g

coordinates_begun : (n g : ℕ) (s : State) → s.arrays (ListCoordinates g) ≡ None
    → (with_lists n s).arrays (ListCoordinates g) ≡ empty_if (nat_lt g n)
coordinates_begun zero g s h = h ∙ none_if g
coordinates_begun (suc n) g s h = elim (same_or_not n g) [
  | inl e ↦ ap (λ j. (with_lists (suc n) s).arrays (ListCoordinates j)) (sym e)
      ∙ set_here (with_lists n s) (ListCoordinates n) [] ∙ here_if n ∙ ap (λ j. empty_if (nat_lt j (suc n))) e
  | inr apart ↦ set_apart (with_lists n s) (ListCoordinates n) (ListCoordinates g) [] (other_coordinates n g apart)
      ∙ coordinates_begun n g s h ∙ one_more_if g n apart
]

positions_begun : (n g : ℕ) (s : State) → s.arrays (ListPositions g) ≡ None
    → (with_lists n s).arrays (ListPositions g) ≡ empty_if (nat_lt g n)
positions_begun zero g s h = h ∙ none_if g
positions_begun (suc n) g s h = elim (same_or_not n g) [
  | inl e ↦ ap (λ j. (with_lists (suc n) s).arrays (ListPositions j)) (sym e)
      ∙ set_here (set_array (with_lists n s) (ListCoordinates n) []) (ListPositions n) [] ∙ here_if n
      ∙ ap (λ j. empty_if (nat_lt j (suc n))) e
  | inr apart ↦ set_apart (set_array (with_lists n s) (ListCoordinates n) []) (ListPositions n) (ListPositions g) []
      (other_positions n g apart)
      ∙ positions_begun n g s h ∙ one_more_if g n apart
]

from_none : (w : ℕ) → w ≡ 0 + w
from_none w = omega arith

abbrev pub NoScratch : State → Type 0
NoScratch s = (a : Arr) → is_scratch a ≡ true → s.arrays a ≡ None

-- a kernel's workspaces and scratch lists are begun as its run starts them
pub scratch_begun : (kernel : Kernel) (s : State) → NoScratch s → (a : Arr)
    → (with_lists kernel.lists (with_workspaces kernel.workspaces 0 s)).arrays a ≡ start_arrays kernel s.arrays a
scratch_begun kernel s none Range = lists_apart kernel.lists (with_workspaces kernel.workspaces 0 s) Range (λ g. refl) (λ g. refl)
    ∙ workspaces_apart kernel.workspaces 0 s Range (λ v k l. refl) (λ v l. refl)
scratch_begun kernel s none (Values n) = lists_apart kernel.lists (with_workspaces kernel.workspaces 0 s) (Values n) (λ g. refl) (λ g. refl)
    ∙ workspaces_apart kernel.workspaces 0 s (Values n) (λ v k l. refl) (λ v l. refl)
scratch_begun kernel s none (Dimension n k) =
    lists_apart kernel.lists (with_workspaces kernel.workspaces 0 s) (Dimension n k) (λ g. refl) (λ g. refl)
    ∙ workspaces_apart kernel.workspaces 0 s (Dimension n k) (λ v k l. refl) (λ v l. refl)
scratch_begun kernel s none (Ends n k) =
    lists_apart kernel.lists (with_workspaces kernel.workspaces 0 s) (Ends n k) (λ g. refl) (λ g. refl)
    ∙ workspaces_apart kernel.workspaces 0 s (Ends n k) (λ v k l. refl) (λ v l. refl)
scratch_begun kernel s none (Coordinates n k) =
    lists_apart kernel.lists (with_workspaces kernel.workspaces 0 s) (Coordinates n k) (λ g. refl) (λ g. refl)
    ∙ workspaces_apart kernel.workspaces 0 s (Coordinates n k) (λ v k l. refl) (λ v l. refl)
scratch_begun kernel s none (Width n k) =
    lists_apart kernel.lists (with_workspaces kernel.workspaces 0 s) (Width n k) (λ g. refl) (λ g. refl)
    ∙ workspaces_apart kernel.workspaces 0 s (Width n k) (λ v k l. refl) (λ v l. refl)
scratch_begun kernel s none (Key w k) =
    lists_apart kernel.lists (with_workspaces kernel.workspaces 0 s) (Key w k) (λ g. refl) (λ g. refl)
    ∙ ap (λ v. (with_workspaces kernel.workspaces 0 s).arrays (Key v k)) (from_none w)
    ∙ key_begun kernel.workspaces 0 w k s (none (Key (0 + w) k) refl)
scratch_begun kernel s none (Sums w) =
    lists_apart kernel.lists (with_workspaces kernel.workspaces 0 s) (Sums w) (λ g. refl) (λ g. refl)
    ∙ ap (λ v. (with_workspaces kernel.workspaces 0 s).arrays (Sums v)) (from_none w)
    ∙ sums_begun kernel.workspaces 0 w s (none (Sums (0 + w)) refl)
scratch_begun kernel s none (ListCoordinates g) =
    coordinates_begun kernel.lists g (with_workspaces kernel.workspaces 0 s)
    (workspaces_apart kernel.workspaces 0 s (ListCoordinates g) (λ v k l. refl) (λ v l. refl) ∙ none (ListCoordinates g) refl)
scratch_begun kernel s none (ListPositions g) =
    positions_begun kernel.lists g (with_workspaces kernel.workspaces 0 s)
    (workspaces_apart kernel.workspaces 0 s (ListPositions g) (λ v k l. refl) (λ v l. refl) ∙ none (ListPositions g) refl)
