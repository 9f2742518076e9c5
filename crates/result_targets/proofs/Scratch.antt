-- Lemmas about what specs/Scratch.antt defines.
use Rattle.std.specs.Prelude.{◌≡◌, ℕ, ◌≤◌, ◌<◌, nat_lt, true, false, List, [], Option, Some, None, refl}
use Rattle.std.proofs.Common.{◌∙◌, sym, ap, subst, arith}
use Rattle.std.proofs.lemmas.Bool.Decides.{nat_tests}
use Rattle.kernel_code.specs.declared.syntax.Arr.{Arr}
use Rattle.kernel_code.specs.declared.syntax.Arr.TheVariants.{Range, Values, Dimension, Ends, Coordinates, Width, Key, Sums}
use Rattle.kernel_code.specs.declared.syntax.Arr.TheVariants.{ListCoordinates, ListPositions}
use Rattle.kernel_code.specs.declared.syntax.Kernel.{Kernel}
use Rattle.kernel_code.specs.Kernels.{empty_if, start_state}
use Rattle.kernel_code.specs.Meaning.{State}
use Rattle.level_core.specs.Meaning.{Arrays}
use Rattle.result_targets.specs.Scratch.{is_of_some_list, IsThere, SameButLists, IsOfList, HasList, IsOfLists, HasLists}

-- where all arrays are the same, those of scratch lists are too
pub all_same : (s t : State) → ((b : Arr) → t.arrays b ≡ s.arrays b) → SameButLists s t
all_same s t h = record { same = λ b is. h b; there = λ b is has. subst IsThere (sym (h b)) has }

pub words_there : (o : Option (List ℕ)) → IsThere o → (xs : List ℕ) × (o ≡ Some xs)
words_there None h = absurd h
words_there (Some xs) h = (xs, refl)

pub there_words : (o : Option (List ℕ)) (xs : List ℕ) → o ≡ Some xs → IsThere o
there_words o xs h = subst IsThere (sym h) tt

-- a list is there wherever the arrays are that were there, but for other rows
pub list_stays : (list : ℕ) (s t : State) → ((b : Arr) → is_of_some_list b ≡ true → IsThere (s.arrays b) → IsThere (t.arrays b))
    → HasList list s → HasList list t
list_stays list s t there h =
    let c = words_there (t.arrays (ListCoordinates list)) (there (ListCoordinates list) refl
    (there_words (s.arrays (ListCoordinates list)) h.coordinates h.coordinates_are)) in
    let p = words_there (t.arrays (ListPositions list)) (there (ListPositions list) refl
    (there_words (s.arrays (ListPositions list)) h.positions h.positions_are)) in
    record { coordinates = c.0; positions = p.0; coordinates_are = c.1; positions_are = p.1 }

-- so it is where all arrays are the same
pub lists_kept : (first past : ℕ) (s t : State) → ((b : Arr) → t.arrays b ≡ s.arrays b) → HasLists first past s → HasLists first past t
lists_kept first past s t h has = λ list from before.
    list_stays list s t (λ b is there. subst IsThere (sym (h b)) there) (has list from before)

-- lists that a kernel declares are there at its start
pub lists_start : (kernel : Kernel) (arrays : Arrays) (first past : ℕ) → past ≤ kernel.lists
    → HasLists first past (start_state kernel arrays)
lists_start kernel arrays first past few = λ list from before.
    let there : nat_lt list kernel.lists ≡ true = grind (arith, nat_tests) in
    record { coordinates = []; positions = []; coordinates_are = ap empty_if there; positions_are = ap empty_if there }

-- an array of a list is a scratch list's
list_scratch : (list : ℕ) (a : Arr) → IsOfList list a → is_of_some_list a ≡ true
list_scratch list Range h = absurd h
list_scratch list (Values n) h = absurd h
list_scratch list (Dimension n k) h = absurd h
list_scratch list (Ends n k) h = absurd h
list_scratch list (Coordinates n k) h = absurd h
list_scratch list (Width n k) h = absurd h
list_scratch list (Key n k) h = absurd h
list_scratch list (Sums n) h = absurd h
list_scratch list (ListCoordinates n) h = refl
list_scratch list (ListPositions n) h = refl

pub lists_scratch : (first past : ℕ) (a : Arr) → IsOfLists first past a → is_of_some_list a ≡ true
lists_scratch first past a h = list_scratch h.list a h.of

-- an array of none is none of these lists
pub off_lists : (first past : ℕ) (a : Arr) → is_of_some_list a ≡ false → IsOfLists first past a → ⊥
off_lists first past a none h = absurd (let both : true ≡ false = sym (lists_scratch first past a h) ∙ none in cc both)

one_list : (a : Arr) (m n : ℕ) → IsOfList m a → IsOfList n a → m ≡ n
one_list Range m n h g = absurd h
one_list (Values k) m n h g = absurd h
one_list (Dimension j k) m n h g = absurd h
one_list (Ends j k) m n h g = absurd h
one_list (Coordinates j k) m n h g = absurd h
one_list (Width j k) m n h g = absurd h
one_list (Key j k) m n h g = absurd h
one_list (Sums k) m n h g = absurd h
one_list (ListCoordinates k) m n h g = sym h ∙ g
one_list (ListPositions k) m n h g = sym h ∙ g

-- a list before the first of others is none of them
pub list_apart : (list first past : ℕ) (a : Arr) → list < first → IsOfList list a → IsOfLists first past a → ⊥
list_apart list first past a less of h =
    let same = one_list a list h.list of h.of in let f = h.from in absurd (omega (arith, same, less, f))

-- lists up to a number aren't those from it on
pub lists_apart : (first mid past : ℕ) (a : Arr) → IsOfLists first mid a → IsOfLists mid past a → ⊥
lists_apart first mid past a h g =
    let same = one_list a h.list g.list h.of g.of in
    let b = h.before in
    let f = g.from in
    absurd (omega (arith, same, b, f))

pub lists_wider : (first past f p : ℕ) (a : Arr) → first ≤ f → p ≤ past → IsOfLists f p a → IsOfLists first past a
lists_wider first past f p a l m h = let b = h.before in let g = h.from in record {
  list = h.list;
  from = omega (arith, l, g);
  before = omega (arith, m, b);
  of = h.of;
}
