-- Arrays that hold the levels of a result, and what else they hold, while one level changes.
use Rattle.std.specs.Prelude.{◌≡◌, ◌≢◌, ℕ, suc, ◌+◌, ◌==◌, ◌≤◌, ◌<◌, true, false, if◌then◌else◌, List, [], ◌∷◌, ◌++◌, length}
use Rattle.std.specs.Prelude.{option_map, refl}
use Rattle.std.proofs.Common.{◌∙◌, sym, ap, subst, arith}
use Rattle.limits.specs.Limits.{greatest_position_count}
use Rattle.kernel_code.specs.Arrays.{same_arr}
use Rattle.kernel_code.proofs.ArrayNames.{same_arr_self}
use Rattle.kernel_code.specs.declared.syntax.Arr.{Arr}
use Rattle.kernel_code.specs.declared.syntax.Arr.TheVariants.{Range, Values, Dimension, Ends, Coordinates, Width, Key, Sums}
use Rattle.kernel_code.specs.declared.syntax.Arr.TheVariants.{ListCoordinates, ListPositions}
use Rattle.level_core.specs.declared.letter.Letter.{Letter}
use Rattle.level_core.specs.Fragments.{IsOf}
use Rattle.level_core.specs.Kinds.{capabilities, parents_below}
use Rattle.level_core.specs.Laws.{AreAtStart, SumsUp, HoldsStart, HoldsFinished}
use Rattle.level_core.specs.Logs.{MayFinish, running}
use Rattle.level_core.specs.Meaning.{Arrays}
use Rattle.level_core.proofs.KindLaws.{starts_there}
use Rattle.level_rows.specs.Draining.{Stays}
use Rattle.tensor_storage.specs.declared.level.StorageLevel.{StorageLevel}
use Rattle.tensor_storage.specs.Levels.{meaning}
use Rattle.tensor_storage.specs.Laws.{laws}
use Rattle.tensor_storage.proofs.Steps.{new_level, new_is}
use Rattle.tensor_storage.proofs.KindArms.{held_without_ends}
use Rattle.kernel_correctness.specs.Results.{summed}
use Rattle.kernel_correctness.specs.Stores.{AreHeld, StartsBelow}

-- an array is one of one level alone
of_one : (x : Arr) (tensor k m : ℕ) → IsOf tensor k x → IsOf tensor m x → k ≡ m
of_one Range tensor k m h g = absurd h
of_one (Values n) tensor k m h g = absurd h
of_one (Dimension n j) tensor k m h g = sym h.1 ∙ g.1
of_one (Ends n j) tensor k m h g = sym h.1 ∙ g.1
of_one (Coordinates n j) tensor k m h g = sym h.1 ∙ g.1
of_one (Width n j) tensor k m h g = sym h.1 ∙ g.1
of_one (Key n j) tensor k m h g = absurd h
of_one (Sums n) tensor k m h g = absurd h
of_one (ListCoordinates n) tensor k m h g = absurd h
of_one (ListPositions n) tensor k m h g = absurd h

no_list : (x : Arr) (tensor k g : ℕ) → IsOf tensor k x → same_arr (ListPositions g) x ≡ false
no_list Range tensor k g h = absurd h
no_list (Values n) tensor k g h = absurd h
no_list (Dimension n j) tensor k g h = refl
no_list (Ends n j) tensor k g h = refl
no_list (Coordinates n j) tensor k g h = refl
no_list (Width n j) tensor k g h = refl
no_list (Key n j) tensor k g h = absurd h
no_list (Sums n) tensor k g h = absurd h
no_list (ListCoordinates n) tensor k g h = absurd h
no_list (ListPositions n) tensor k g h = absurd h

no_value : (x : Arr) (tensor k : ℕ) → IsOf tensor k x → same_arr (Values 0) x ≡ false
no_value Range tensor k h = absurd h
no_value (Values n) tensor k h = absurd h
no_value (Dimension n j) tensor k h = refl
no_value (Ends n j) tensor k h = refl
no_value (Coordinates n j) tensor k h = refl
no_value (Width n j) tensor k h = refl
no_value (Key n j) tensor k h = absurd h
no_value (Sums n) tensor k h = absurd h
no_value (ListCoordinates n) tensor k h = absurd h
no_value (ListPositions n) tensor k h = absurd h

-- an array of a level is neither the positions of a scratch list nor the values
pub level_beside : (x : Arr) (level g : ℕ) → IsOf 0 level x → (same_arr (ListPositions g) x ≡ false) × (same_arr (Values 0) x ≡ false)
level_beside x level g of = (no_list x 0 level g of, no_value x 0 level of)

-- the arrays of another level of the result stay
pub stays_other : (x : Arr) (k m g : ℕ) → k ≢ m → IsOf 0 k x → Stays m g x
stays_other x k m g away of = (λ also. away (of_one x 0 k m of also), no_list x 0 k g of)

summed_same : (a b : Arrays) (x : Arr) → b x ≡ a x → summed b x ≡ summed a x
summed_same a b Range h = h
summed_same a b (Values n) h = h
summed_same a b (Dimension n k) h = h
summed_same a b (Ends n k) h =
    ap (λ xs. if n == 0 then option_map (running 0) xs else xs) h
summed_same a b (Coordinates n k) h = h
summed_same a b (Width n k) h = h
summed_same a b (Key n k) h = h
summed_same a b (Sums n) h = h
summed_same a b (ListCoordinates n) h = h
summed_same a b (ListPositions n) h = h

-- the levels above one that changes are held on
pub held_along : (levels : List StorageLevel) (k m : ℕ) (a b : Arrays) → k + length levels ≤ m
    → ((j : ℕ) (x : Arr) → j < m → IsOf 0 j x → b x ≡ a x) → AreHeld levels 0 k (summed a) → AreHeld levels 0 k (summed b)
held_along [] k m a b fits same h = h
held_along (l ∷ ls) k m a b fits same h = (
  laws.held_there l 0 k (summed a) (summed b) (λ x of. summed_same a b x (same k x (omega (arith, fits)) of)) h.0,
  held_along ls (suc k) m a b (omega (arith, fits)) same h.1,
)

pub held_push : (levels : List StorageLevel) (k : ℕ) (l : StorageLevel) (arrays : Arrays) → AreHeld levels 0 k arrays
    → meaning.holds l 0 (k + length levels) arrays → AreHeld (levels ++ l ∷ []) 0 k arrays
held_push [] k l arrays h g = let same : k + 0 ≡ k = omega arith in (subst (λ m. meaning.holds l 0 m arrays) same g, tt)
held_push (n ∷ ns) k l arrays h g =
    let same : k + suc (length ns) ≡ suc k + length ns = omega arith in (
      h.0,
      held_push ns (suc k) l arrays h.1 (subst (λ m. meaning.holds l 0 m arrays) same g),
    )

-- the levels below one that changes stay as they are begun
pub starts_kept : (nothing : ℕ) (letters : List Letter) (sizes : List ℕ) (parents k : ℕ) (a b : Arrays)
    → ((j : ℕ) (x : Arr) → k ≤ j → IsOf 0 j x → b x ≡ a x) → b (Values 0) ≡ a (Values 0)
    → StartsBelow nothing letters sizes parents k a → StartsBelow nothing letters sizes parents k b
starts_kept nothing [] [] parents k a b same values h = values ∙ h
starts_kept nothing [] (size ∷ sizes) parents k a b same values h = values ∙ h
starts_kept nothing (letter ∷ letters) [] parents k a b same values h = values ∙ h
starts_kept nothing (letter ∷ letters) (size ∷ sizes) parents k a b same values h = (
  starts_there letter size parents 0 k a b (λ x of. same k x (omega arith) of) h.0,
  starts_kept nothing letters sizes (parents_below letter size parents) (suc k) a b
      (λ j x from of. same j x (omega (arith, from)) of) values h.1,
)

-- the arrays with the numbers of positions of one level summed up
abbrev one_summed : ℕ → Arrays → Arrays
one_summed k arrays x = if same_arr (Ends 0 k) x then option_map (running 0) (arrays x) else arrays x

sums_up : (k : ℕ) (a : Arrays) → SumsUp 0 k a (one_summed k a)
sums_up k a = record {
  ends = λ counts h. ap (λ b. if b then option_map (running 0) (a (Ends 0 k)) else a (Ends 0 k)) (same_arr_self (Ends 0 k))
      ∙ ap (option_map (running 0)) h;
  others = λ x no. ap (λ b. if b then option_map (running 0) (a x) else a x) no;
}

summed_at : (k : ℕ) (a : Arrays) (x : Arr) → IsOf 0 k x → summed a x ≡ one_summed k a x
summed_at k a Range h = absurd h
summed_at k a (Values n) h = absurd h
summed_at k a (Dimension n j) h = refl
summed_at k a (Ends n j) h =
    let yes : (n == 0) ≡ true = ap (λ m. m == 0) h.0 in
    let same : same_arr (Ends 0 k) (Ends n j) ≡ true =
    ap (λ m. same_arr (Ends 0 k) (Ends m j)) h.0 ∙ ap (λ m. same_arr (Ends 0 k) (Ends 0 m)) h.1 ∙ same_arr_self (Ends 0 k) in
    ap (λ b. if b then option_map (running 0) (a (Ends n j)) else a (Ends n j)) (yes ∙ sym same)
summed_at k a (Coordinates n j) h = refl
summed_at k a (Width n j) h = refl
summed_at k a (Key n j) h = absurd h
summed_at k a (Sums n) h = absurd h
summed_at k a (ListCoordinates n) h = absurd h
summed_at k a (ListPositions n) h = absurd h

-- a level to which all is appended is finished as the numbers of positions are summed up
pub finished_summed : (l : StorageLevel) (parents k : ℕ) (a : Arrays) → meaning.keeps l → MayFinish parents (meaning.log l)
    → meaning.holds l 0 k a → HoldsFinished meaning l parents 0 k (summed a)
finished_summed l parents k a keeps may held =
    let f = laws.finishes l parents 0 k a (one_summed k a) keeps may held (sums_up k a) in
    record {
      done = f.done;
      finishes = f.finishes;
      held = laws.held_there f.done 0 k (one_summed k a) (summed a) (summed_at k a) f.held;
    }

-- a level that coordinates are inserted into has no numbers of positions
pub inserted_summed : (l : StorageLevel) (k : ℕ) (a : Arrays) → (capabilities (meaning.kind l)).append ≡ false
    → meaning.holds l 0 k a → meaning.holds l 0 k (summed a)
inserted_summed l k a never h =
    held_without_ends l 0 k a (summed a) never (λ x of no. summed_at k a x of ∙ (sums_up k a).others x no) h

-- a kernel begins with a level of each kind
pub begun_level : (letter : Letter) (size parents k : ℕ) (a : Arrays) → size ≤ greatest_position_count
    → parents ≤ greatest_position_count → AreAtStart letter size parents 0 k a → HoldsStart meaning letter size parents 0 k a
begun_level letter size parents k a small few at =
    let is = (new_is letter 0).kind in
    subst (λ kind. HoldsStart meaning kind size parents 0 k a) is
    (laws.starts (new_level letter 0) size parents 0 k a small few
    (subst (λ kind. AreAtStart kind size parents 0 k a) (sym is) at))
