-- Levels that are handed over one after another.
use Rattle.std.specs.Prelude.{◌≡◌, ◌⊎◌, ℕ, zero, suc, ◌+◌, ◌≤◌, ◌<◌, List, [], ◌∷◌, length, Bool, true, false, if◌then◌else◌, Some}
use Rattle.std.specs.Prelude.{slice_get, slice_set}
use Rattle.std.specs.Prelude.{refl}
use Rattle.std.proofs.Common.{◌∙◌, sym, ap, subst, arith, inl, inr}
use Rattle.kernel_code.specs.declared.syntax.Arr.{Arr}
use Rattle.kernel_code.specs.declared.syntax.Arr.TheVariants.{Range, Values, Dimension, Ends, Coordinates, Width, Key, Sums}
use Rattle.kernel_code.specs.declared.syntax.Arr.TheVariants.{ListCoordinates, ListPositions}
use Rattle.kernel_code.specs.Arrays.{same_arr}
use Rattle.kernel_code.specs.Meaning.{State, set_array}
use Rattle.kernel_code.proofs.ArrayNames.{same_arr_is}
use Rattle.level_core.specs.Fragments.{IsOf}
use Rattle.level_core.specs.Meaning.{Arrays}
use Rattle.machine_parts.proofs.ListLemmas.{get_here, get_other}
use Rattle.storage_builder.specs.Building.{Building, building}
use Rattle.tensor_storage.specs.declared.words.LevelWords.{LevelWords}
use Rattle.kernel_machine.specs.Runs.{WordsLeft, WasHanded}
use Rattle.kernel_machine.proofs.Parts.{left_same}

-- the first n levels were handed over of what the arrays had, and the arrays of the others stand as they did
pub record Handing (old : Building) (before : Arrays) (n : ℕ) (b : Building) (a : Arrays) : Type 0 where
  pub format : b.format ≡ old.format
  pub sizes : b.sizes ≡ old.sizes
  pub long : length b.parts ≡ length old.parts
  pub handed : (i : ℕ) (words : LevelWords) → i < n → slice_get b.parts i ≡ Some words → WordsLeft (suc i) words before
  pub others : (x : Arr) → ((k : ℕ) → k ≤ n → IsOf 0 k x → ⊥) → a x ≡ before x

pub handing_none : (old : Building) (before : Arrays) → Handing old before 0 old before
handing_none old before = record {
  format = refl;
  sizes = refl;
  long = refl;
  handed = λ i words l. absurd (omega (arith, l));
  others = λ x h. refl;
}

one_level : (b : Arr) (k level : ℕ) → IsOf 0 k b → IsOf 0 level b → k ≡ level
one_level Range k level h g = absurd h
one_level (Values n) k level h g = absurd h
one_level (Dimension n j) k level h g = sym h.1 ∙ g.1
one_level (Ends n j) k level h g = sym h.1 ∙ g.1
one_level (Coordinates n j) k level h g = sym h.1 ∙ g.1
one_level (Width n j) k level h g = sym h.1 ∙ g.1
one_level (Key n j) k level h g = absurd h
one_level (Sums n) k level h g = absurd h
one_level (ListCoordinates n) k level h g = absurd h
one_level (ListPositions n) k level h g = absurd h

set_long : {X : Type 0} (xs : List X) (i : ℕ) (x : X) → length (slice_set xs i x) ≡ length xs
set_long [] i x = refl
set_long (y ∷ ys) zero x = refl
set_long (y ∷ ys) (suc i) x = ap suc (set_long ys i x)

some_is : {X : Type 0} (x y : X) → Some x ≡ Some y → x ≡ y
some_is x y h = cc

earlier : (i n : ℕ) → i < n + 1 → (i < n) ⊎ (n ≡ i)
earlier i n h = grind arith

-- one level more
pub handing_more : (old : Building) (before : Arrays) (n : ℕ) (b : Building) (a a' : Arrays) (words : LevelWords)
    → Handing old before n b a → n < length b.parts → WordsLeft (n + 1) words a
    → ((x : Arr) → (IsOf 0 (n + 1) x → ⊥) → a' x ≡ a x)
    → Handing old before (n + 1) (building b.format b.sizes (slice_set b.parts n words)) a'
handing_more old before n b a a' words h short left others = record {
  format = h.format;
  sizes = h.sizes;
  long = set_long b.parts n words ∙ h.long;
  handed = λ i p l is. by i p is (earlier i n l);
  others = λ x none. others x (λ is. none (n + 1) (omega arith) is) ∙ h.others x (λ k l is. none k (omega (arith, l)) is);
}
  where
    next : n + 1 ≡ suc n
    next = omega arith

    stand : (x : Arr) → IsOf 0 (n + 1) x → before x ≡ a x
    stand x is = sym (h.others x (λ k l also. let same = one_level x k (n + 1) also is in omega (arith, same, l)))

    here_is : (p : LevelWords) → words ≡ p → WordsLeft (suc n) p before
    here_is p same =
        subst (λ q. WordsLeft (suc n) q before) same
        (subst (λ k. WordsLeft k words before) next (left_same (n + 1) words a before stand left))

    by : (i : ℕ) (p : LevelWords) → slice_get (slice_set b.parts n words) i ≡ Some p → (i < n) ⊎ (n ≡ i) → WordsLeft (suc i) p before
    by i p is (inl l) = h.handed i p l (sym (get_other b.parts n i words (λ e. omega (arith, e, l))) ∙ is)
    by i p is (inr e) =
        subst (λ k. WordsLeft (suc k) p before) e
        (here_is p (some_is words p (sym (get_here b.parts n words short) ∙ ap (slice_get (slice_set b.parts n words)) e ∙ is)))

pub handing_done : (old : Building) (before : Arrays) (n : ℕ) (b : Building) (a : Arrays) → Handing old before n b a
    → length old.format ≤ n → WasHanded old before b a
handing_done old before n b a h l = record {
  format = h.format;
  sizes = h.sizes;
  long = h.long;
  handed = λ i words m. h.handed i words (omega (arith, l, m));
  others = λ x none. h.others x (λ k _ is. none k is);
}

-- an array that is taken leaves the others
pub kept : (s t : State) (a b : Arr) → t ≡ set_array s a [] → same_arr a b ≡ false → t.arrays b ≡ s.arrays b
kept s t a b is other = ap (λ (u : State). u.arrays b) is ∙ ap (λ x. if x then Some [] else s.arrays b) other

-- an array of a level isn't one that is none of the level's
pub apart : (a b : Arr) (level : ℕ) → IsOf 0 level a → (IsOf 0 level b → ⊥) → same_arr a b ≡ false
apart a b level of not = by (same_arr a b) refl
  where
    by : (x : Bool) → same_arr a b ≡ x → same_arr a b ≡ false
    by true e = absurd (not (subst (IsOf 0 level) (same_arr_is a b e) of))
    by false e = e
