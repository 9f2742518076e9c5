-- What changes of the machine's arrays are in the state that it stands for.
use Rattle.std.specs.Prelude.{◌≡◌, ℕ, ◌≤◌, ◌<◌, ◌==◌, Bool, true, false, nat_lt, if◌then◌else◌, List, [], ◌∷◌, ◌++◌, length}
use Rattle.std.specs.Prelude.{Option, Some, None, slice_get, slice_index_or, slice_index, slice_set, refl}
use Rattle.std.specs.Vec.{with_item}
use Rattle.std.proofs.Common.{◌∙◌, sym, ap, arith}
use Rattle.std.proofs.lemmas.Bool.Decides.{nat_tests}
use Rattle.kernel_code.specs.declared.syntax.Arr.{Arr}
use Rattle.kernel_code.specs.declared.syntax.LoopKind.{LoopKind}
use Rattle.kernel_code.specs.declared.syntax.LoopKind.TheVariants.{Merge, Skip, Gather, Drain, Probe}
use Rattle.kernel_code.specs.declared.syntax.Turns.{Turns}
use Rattle.kernel_code.specs.Arrays.{same_arr, may_have, may_write, told_count}
use Rattle.kernel_code.specs.Meaning.{Outcome, Ended, Stuck, Over, set_array, with_array, if_written, changed, grown}
use Rattle.kernel_code.proofs.ArrayNames.{same_arr_is, same_arr_self}
use Rattle.lent_arrays.specs.Lent.{lent_array}
use Rattle.lists.proofs.Tests.{same_number}
use Rattle.machine_parts.specs.declared.words.OwnArray.{OwnArray}
use Rattle.machine_parts.specs.ArrayPlaces.{place_in}
use Rattle.machine_parts.proofs.ListLemmas.{get_here, get_other, get_within, get_last, get_before, get_beyond, apart}
use Rattle.machine_parts.proofs.PlaceLemmas.{HasPlace}
use Rattle.kernel_interpreter.specs.declared.machine.Machine.{Machine}
use Rattle.kernel_interpreter.specs.Store.{array_of, own_array, array_at, words_named, by_right, state_of, count_of, IsPlaceOf, IsWritable}

pub test_below : (m n : ℕ) → m < n → nat_lt m n ≡ true
test_below m n h = grind (arith, nat_tests)

test_not_below : (m n : ℕ) → n ≤ m → nat_lt m n ≡ false
test_not_below m n h = grind (arith, nat_tests)

-- w is the array at place i, which is that of a
pub record Stands (m : Machine) (a : Arr) (i : ℕ) (w : OwnArray) : Type 0 where
  pub writable : IsWritable m a i
  pub is : w ≡ slice_index_or m.arrays.items i w

-- with another array in the place of w
abbrev pub replaced : Machine → ℕ → OwnArray → Machine
replaced m i new = record m { arrays = with_item m.arrays i new }

-- an array with another name isn't found by this one
named_other : (w : OwnArray) (a b : Arr) → w.name ≡ a → same_arr a b ≡ false → words_named b (Some w) ≡ None
named_other w a b n h = ap (λ x. if same_arr x b then Some w.words.items else None) n
    ∙ ap (λ t. if t then Some w.words.items else None) h

named_same : (w : OwnArray) (a b : Arr) → w.name ≡ a → same_arr a b ≡ true → words_named b (Some w) ≡ Some w.words.items
named_same w a b n h = ap (λ x. if same_arr x b then Some w.words.items else None) n
    ∙ ap (λ t. if t then Some w.words.items else None) h

-- other names find what they found
at_other : (o : Option ℕ) (ws : List OwnArray) (i : ℕ) (new : OwnArray) (a b : Arr) → i < length ws → new.name ≡ a
    → (slice_index_or ws i new).name ≡ a → same_arr a b ≡ false → array_at o (slice_set ws i new) b ≡ array_at o ws b
at_other None ws i new a b l n old h = refl
at_other (Some j) ws i new a b l n old h = by (i == j) refl
  where
    by : (t : Bool) → (i == j) ≡ t → words_named b (slice_get (slice_set ws i new) j) ≡ words_named b (slice_get ws j)
    by true e =
        let here : i ≡ j = same_number i j e in
        ap (λ k. words_named b (slice_get (slice_set ws i new) k)) (sym here)
        ∙ ap (words_named b) (get_here ws i new l) ∙ named_other new a b n h
        ∙ sym (ap (words_named b) (get_within ws i new l) ∙ named_other (slice_index_or ws i new) a b old h)
        ∙ ap (λ k. words_named b (slice_get ws k)) here
    by false e = ap (words_named b) (get_other ws i j new (apart i j e))

own_set : (m : Machine) (a : Arr) (i : ℕ) (new : OwnArray) → IsPlaceOf m a i → new.name ≡ a → (b : Arr)
    → own_array (replaced m i new) b ≡ (if same_arr a b then Some new.words.items else own_array m b)
own_set m a i new p n b = by (same_arr a b) refl
  where
    by : (t : Bool) → same_arr a b ≡ t
        → own_array (replaced m i new) b ≡ (if t then Some new.words.items else own_array m b)
    by true e =
        let there : place_in m.places b ≡ Some i = ap (place_in m.places) (sym (same_arr_is a b e)) ∙ p.is in
        ap (λ o. array_at o (slice_set m.arrays.items i new) b) there
        ∙ ap (words_named b) (get_here m.arrays.items i new p.within) ∙ named_same new a b n e
    by false e = at_other (place_in m.places b) m.arrays.items i new a b p.within n (p.name new) e

-- the same of all arrays, where the own one may be written
pub by_right_of : (a b : Arr) (own old lent : Option (List ℕ)) (xs : List ℕ) → may_write a ≡ true
    → own ≡ (if same_arr a b then Some xs else old)
    → by_right (may_write b) own lent ≡ (if same_arr a b then Some xs else by_right (may_write b) old lent)
by_right_of a b own old lent xs w is = by (same_arr a b) refl
  where
    by : (t : Bool) → same_arr a b ≡ t
        → by_right (may_write b) own lent ≡ (if t then Some xs else by_right (may_write b) old lent)
    by true e = ap (λ t. by_right t own lent) (ap may_write (sym (same_arr_is a b e)) ∙ w) ∙ is
        ∙ ap (λ t. if t then Some xs else old) e
    by false e = ap (λ o. by_right (may_write b) o lent) (is ∙ ap (λ t. if t then Some xs else old) e)

array_set : (m : Machine) (a : Arr) (i : ℕ) (new : OwnArray) → IsWritable m a i → new.name ≡ a
    → array_of (replaced m i new) ≡ (λ b. if same_arr a b then Some new.words.items else array_of m b)
array_set m a i new p n = λ k b. by_right_of a b (own_array (replaced m i new) b) (own_array m b) (lent_array m.lent b) new.words.items p.1
    (own_set m a i new p.0 n b) k

pub state_of_replaced : (m : Machine) (a : Arr) (i : ℕ) (w new : OwnArray) → Stands m a i w → new.name ≡ w.name
    → state_of (replaced m i new) ≡ set_array (state_of m) a new.words.items
state_of_replaced m a i w new s n =
    ap (λ f. record (state_of m) { arrays = f }) (array_set m a i new s.writable (n ∙ ap (λ v. v.name) s.is ∙ s.writable.0.name w))

-- the array at the place of its name
pub own_found : (m : Machine) (a : Arr) (i : ℕ) (d : OwnArray) → IsPlaceOf m a i
    → own_array m a ≡ Some (slice_index_or m.arrays.items i d).words.items
own_found m a i d p = ap (λ o. array_at o m.arrays.items a) p.is ∙ ap (words_named a) (get_within m.arrays.items i d p.within)
    ∙ named_same (slice_index_or m.arrays.items i d) a a (p.name d) (same_arr_self a)

pub own_at_place : (m : Machine) (a : Arr) (i : ℕ) (d : OwnArray) → IsWritable m a i
    → array_of m a ≡ Some (slice_index_or m.arrays.items i d).words.items
own_at_place m a i d p = ap (λ t. by_right t (own_array m a) (lent_array m.lent a)) p.1 ∙ own_found m a i d p.0

-- where the name has no place, there is no array
pub none_found : (m : Machine) (a : Arr) → may_write a ≡ true → own_array m a ≡ None → array_of m a ≡ None
none_found m a w h = ap (λ t. by_right t (own_array m a) (lent_array m.lent a)) w ∙ h

pub with_array_at : (m : Machine) (a : Arr) (i : ℕ) (w : OwnArray) (next : List ℕ → Outcome) → Stands m a i w
    → with_array (state_of m) a next ≡ next w.words.items
with_array_at m a i w next s =
    ap (λ b. if_written (state_of m) b (array_of m a) next) s.writable.1
    ∙ ap (λ xs. if_written (state_of m) true xs next) (own_at_place m a i w s.writable)
    ∙ ap (λ v. next v.words.items) (sym s.is)

pub changed_at : (m : Machine) (a : Arr) (i : ℕ) (w new : OwnArray) (j : ℕ) (f : ℕ → ℕ) → Stands m a i w → j < length w.words.items
    → new.name ≡ w.name → new.words.items ≡ slice_set w.words.items j (f (slice_index w.words.items j))
    → Ended (state_of (replaced m i new)) ≡ with_array (state_of m) a (changed (state_of m) a j f)
changed_at m a i w new j f s l n e =
    ap Ended (state_of_replaced m a i w new s n)
    ∙ ap (λ xs. Ended (set_array (state_of m) a xs)) e
    ∙ sym (with_array_at m a i w (changed (state_of m) a j f) s
    ∙ ap (λ b. if b then Ended (set_array (state_of m) a (slice_set w.words.items j (f (slice_index w.words.items j)))) else Stuck
    (state_of m).turns 1) (test_below j (length w.words.items) l))

pub not_changed_at : (m : Machine) (a : Arr) (i : ℕ) (w : OwnArray) (j : ℕ) (f : ℕ → ℕ) → Stands m a i w → length w.words.items ≤ j
    → Stuck (state_of m).turns 1 ≡ with_array (state_of m) a (changed (state_of m) a j f)
not_changed_at m a i w j f s l =
    sym (with_array_at m a i w (changed (state_of m) a j f) s
    ∙ ap (λ b. if b then Ended (set_array (state_of m) a (slice_set w.words.items j (f (slice_index w.words.items j)))) else Stuck
    (state_of m).turns 1) (test_not_below j (length w.words.items) l))

pub grown_at : (m : Machine) (a : Arr) (i : ℕ) (w new : OwnArray) (count : List ℕ → ℕ) (more : List ℕ) → Stands m a i w
    → may_have a (count w.words.items) ≡ true → new.name ≡ w.name → new.words.items ≡ w.words.items ++ more
    → Ended (state_of (replaced m i new)) ≡ with_array (state_of m) a (λ xs. grown (state_of m) a (count xs) xs more)
grown_at m a i w new count more s b n e =
    ap Ended (state_of_replaced m a i w new s n)
    ∙ ap (λ xs. Ended (set_array (state_of m) a xs)) e
    ∙ sym (with_array_at m a i w (λ xs. grown (state_of m) a (count xs) xs more) s
    ∙ ap (λ b. if b then Ended (set_array (state_of m) a (w.words.items ++ more)) else Over (state_of m).turns a
    (told_count a (count w.words.items))) b)

pub not_grown_at : (m : Machine) (a : Arr) (i : ℕ) (w : OwnArray) (count : List ℕ → ℕ) (more : List ℕ) → Stands m a i w
    → may_have a (count w.words.items) ≡ false
    → Over (state_of m).turns a (told_count a (count w.words.items)) ≡ with_array (state_of m) a
    (λ xs. grown (state_of m) a (count xs) xs more)
not_grown_at m a i w count more s b =
    sym (with_array_at m a i w (λ xs. grown (state_of m) a (count xs) xs more) s
    ∙ ap (λ b. if b then Ended (set_array (state_of m) a (w.words.items ++ more)) else Over (state_of m).turns a
    (told_count a (count w.words.items))) b)

pub set_at : (m : Machine) (a : Arr) (i : ℕ) (w new : OwnArray) (f : List ℕ → List ℕ) → Stands m a i w → new.name ≡ w.name
    → new.words.items ≡ f w.words.items
    → Ended (state_of (replaced m i new)) ≡ with_array (state_of m) a (λ xs. Ended (set_array (state_of m) a (f xs)))
set_at m a i w new f s n e =
    ap Ended (state_of_replaced m a i w new s n)
    ∙ ap (λ xs. Ended (set_array (state_of m) a xs)) e
    ∙ sym (with_array_at m a i w (λ xs. Ended (set_array (state_of m) a (f xs))) s)

-- one more array
at_more : (o : Option ℕ) (ws : List OwnArray) (new : OwnArray) (a b : Arr) → new.name ≡ a → same_arr a b ≡ false
    → array_at o (ws ++ new ∷ []) b ≡ array_at o ws b
at_more None ws new a b n h = refl
at_more (Some j) ws new a b n h = by (length ws == j) refl
  where
    by : (t : Bool) → (length ws == j) ≡ t → words_named b (slice_get (ws ++ new ∷ []) j) ≡ words_named b (slice_get ws j)
    by true e =
        let here : length ws ≡ j = same_number (length ws) j e in
        ap (λ k. words_named b (slice_get (ws ++ new ∷ []) k)) (sym here)
        ∙ ap (words_named b) (get_last ws new) ∙ named_other new a b n h
        ∙ sym (ap (words_named b) (get_beyond ws))
        ∙ ap (λ k. words_named b (slice_get ws k)) here
    by false e = ap (words_named b) (get_before ws new j (apart (length ws) j e))

own_added : (m m' : Machine) (a : Arr) (new : OwnArray) → new.name ≡ a → HasPlace m.places m'.places a (length m.arrays.items)
    → m'.arrays.items ≡ m.arrays.items ++ new ∷ [] → (b : Arr)
    → own_array m' b ≡ (if same_arr a b then Some new.words.items else own_array m b)
own_added m m' a new n places is b = ap (λ ws. array_at (place_in m'.places b) ws b) is
    ∙ ap (λ o. array_at o (m.arrays.items ++ new ∷ []) b) (places b) ∙ by (same_arr a b) refl
  where
    by : (t : Bool) → same_arr a b ≡ t
        → array_at (if t then Some (length m.arrays.items) else place_in m.places b) (m.arrays.items ++ new ∷ []) b
        ≡ (if t then Some new.words.items else own_array m b)
    by true e = ap (words_named b) (get_last m.arrays.items new) ∙ named_same new a b n e
    by false e = at_more (place_in m.places b) m.arrays.items new a b n e

pub array_added : (m m' : Machine) (a : Arr) (new : OwnArray) → may_write a ≡ true → new.name ≡ a
    → HasPlace m.places m'.places a (length m.arrays.items) → m'.arrays.items ≡ m.arrays.items ++ new ∷ [] → m'.lent ≡ m.lent
    → array_of m' ≡ (λ b. if same_arr a b then Some new.words.items else array_of m b)
array_added m m' a new w n places is lent = λ k b. (ap (λ l. by_right (may_write b) (own_array m' b) (lent_array l b)) lent
    ∙ by_right_of a b (own_array m' b) (own_array m b) (lent_array m.lent b) new.words.items w (own_added m m' a new n places is b)) k

none_made : (k : LoopKind) → count_of (record { merge = 0; skip = 0; gather = 0; drain = 0; probe = 0 }) k ≡ 0
none_made Merge = refl
none_made Skip = refl
none_made Gather = refl
none_made Drain = refl
none_made Probe = refl

pub no_turns_made : count_of (record { merge = 0; skip = 0; gather = 0; drain = 0; probe = 0 }) ≡ (λ k. 0)
no_turns_made = λ i k. none_made k i

-- turns are what is counted of each kind
pub same_turns : (t u : Turns) → count_of t ≡ count_of u → t ≡ u
same_turns t u h = λ i. record { merge = h i Merge; skip = h i Skip; gather = h i Gather; drain = h i Drain; probe = h i Probe }
