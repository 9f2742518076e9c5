-- The arrays of a machine that was begun are those with which a kernel's run starts on its store.
use Rattle.std.specs.Prelude.{◌≡◌, ℕ, zero, suc, ◌+◌, ◌≤◌, ◌<◌, ◌==◌, true, false, List, [], ◌∷◌, map, Option, Some, None, slice_get}
use Rattle.std.specs.Prelude.{length, refl}
use Rattle.std.specs.Bool.{then_some}
use Rattle.std.proofs.Common.{◌∙◌, sym, ap, subst, arith}
use Rattle.std.proofs.lemmas.Bool.Decides.{nat_tests}
use Rattle.kernel_code.specs.declared.syntax.Arr.{Arr}
use Rattle.kernel_code.specs.declared.syntax.Arr.TheVariants.{Range, Values, Dimension, Ends, Coordinates, Width, Key, Sums}
use Rattle.kernel_code.specs.declared.syntax.Arr.TheVariants.{ListCoordinates, ListPositions}
use Rattle.kernel_code.specs.declared.syntax.Kernel.{Kernel}
use Rattle.kernel_code.specs.declared.syntax.LoopKind.{LoopKind}
use Rattle.kernel_code.specs.Arrays.{same_arr, may_write}
use Rattle.kernel_code.specs.Arrays.{is_scratch}
use Rattle.kernel_code.specs.Meaning.{State, set_array}
use Rattle.level_core.specs.declared.letter.Letter.{Letter}
use Rattle.level_core.specs.Meaning.{Arrays}
use Rattle.tensor_storage.specs.declared.level.StorageLevel.{StorageLevel}
use Rattle.tensor_storage.specs.Storages.{Storage, in_level_order}
use Rattle.format_spec.specs.declared.format.FormatLevel.{FormatLevel}
use Rattle.format_spec.specs.Formats.{letters_of}
use Rattle.level_core.specs.declared.arrays.LevelArray.{LevelArray}
use Rattle.level_core.specs.declared.arrays.LevelArray.TheVariants.{Dimension as OfSize, Ends as OfEnds}
use Rattle.level_core.specs.declared.arrays.LevelArray.TheVariants.{Coordinates as OfCoordinates, Width as OfWidth}
use Rattle.level_core.specs.Arrays.{array_of}
use Rattle.tensor_storage.specs.Laws.{laws}
use Rattle.tensor_storage.specs.Levels.{meaning}
use Rattle.lent_arrays.specs.declared.lent.LentArrays.{LentArrays}
use Rattle.lent_arrays.specs.declared.lent.Operand.{Operand}
use Rattle.lent_arrays.specs.Lent.{numbered, words_of_level, words_of_operand, values_of_operand, one_word, if_there, size_in, lent_array}
use Rattle.kernel_interpreter.specs.declared.machine.Machine.{Machine}
use Rattle.kernel_interpreter.specs.Store.{own_array, by_right, state_of}
use Rattle.machine_starts.specs.Begun.{filled_with, with_zeros, begun, begun_result, with_keys, with_workspaces}
use Rattle.machine_starts.specs.Begun.{with_lists, HasSizes, AreBegun}
use Rattle.level_core.specs.Kinds.{properties, parents_below, zeros_at_start}
use Rattle.machine_starts.specs.Begun.{IsFew, IsNotMade, sizes_lent}
use Rattle.machine_starts.proofs.Alone.{result_lacks, result_above, result_behind, no_size}
use Rattle.machine_starts.specs.Lending.{Parts, lent_of, parts_of}
use Rattle.machine_starts.proofs.Begun.{result_apart, result_begun, IsFrom}
use Rattle.machine_starts.proofs.NoRows.{NoScratch, scratch_begun}
use Rattle.kernel_correctness.specs.Stores.{AreHeld, OperandsHeld, StartsBelow, StartsFew, IsGiven}
use Rattle.kernel_machine.specs.Begins.{StartsOn, HaveNoMore, Lacks, words_in, stored_words, stored_values, store_of}

-- what no step changes: variables and turns
abbrev Same : State → State → Type 0
Same s t = (t.vars ≡ s.vars) × (t.turns ≡ s.turns)

filled_same : (o : Option ℕ) (array : LevelArray) (level : ℕ) (s : State) → Same s (filled_with o array level s)
filled_same None array level s = (refl, refl)
filled_same (Some count) array level s = (refl, refl)

begun_same : (letter : Letter) (parents level : ℕ) (s : State) → Same s (begun letter parents level s)
begun_same letter parents level s =
    let ends = with_zeros letter OfEnds parents level s in
    let widths = with_zeros letter OfWidth parents level ends in
    let first = filled_same (zeros_at_start letter OfEnds parents) OfEnds level s in
    let second = filled_same (zeros_at_start letter OfWidth parents) OfWidth level ends in
    let third = filled_same (zeros_at_start letter OfCoordinates parents) OfCoordinates level widths in
    (third.0 ∙ second.0 ∙ first.0, third.1 ∙ second.1 ∙ first.1)

result_same : (nothing : ℕ) (letters : List Letter) (sizes : List ℕ) (parents level : ℕ) (s : State)
    → Same s (begun_result nothing letters sizes parents level s)
result_same nothing [] [] parents level s = (refl, refl)
result_same nothing [] (size ∷ sizes) parents level s = (refl, refl)
result_same nothing (letter ∷ letters) [] parents level s = (refl, refl)
result_same nothing (letter ∷ letters) (size ∷ sizes) parents level s =
    let here = begun_same letter parents level s in
    let rest = result_same nothing letters sizes (parents_below letter size parents) (suc level) (begun letter parents level s) in
    (rest.0 ∙ here.0, rest.1 ∙ here.1)

keys_same : (w n : ℕ) (s : State) → Same s (with_keys w n s)
keys_same w zero s = (refl, refl)
keys_same w (suc n) s = keys_same w n s

workspaces_same : (ws : List ℕ) (w : ℕ) (s : State) → Same s (with_workspaces ws w s)
workspaces_same [] w s = (refl, refl)
workspaces_same (keys ∷ more) w s =
    let here = keys_same w keys s in
    let rest = workspaces_same more (suc w) (set_array (with_keys w keys s) (Sums w) []) in
    (rest.0 ∙ here.0, rest.1 ∙ here.1)

lists_same : (n : ℕ) (s : State) → Same s (with_lists n s)
lists_same zero s = (refl, refl)
lists_same (suc n) s = lists_same n s

-- the ranges of full levels of the result stand in their arrays
has_sizes : (all : List (Option ℕ)) (letters : List Letter) (sizes : List ℕ) (k : ℕ) (a : Arrays)
    → ((level : ℕ) → a (Dimension 0 level) ≡ one_word (size_in all level))
    → ((i : ℕ) → slice_get all (k + i) ≡ slice_get (sizes_lent letters sizes) i) → HasSizes letters sizes (suc k) a
has_sizes all [] sizes k a h same = tt
has_sizes all (letter ∷ letters) [] k a h same = tt
has_sizes all (letter ∷ letters) (size ∷ sizes) k a h same = (
  λ full. h (suc k) ∙ ap (λ j. one_word (if_there (slice_get all j))) here ∙ ap (λ o. one_word (if_there o)) (same 0)
      ∙ ap (λ f. one_word (then_some f size)) full,
  has_sizes all letters sizes (suc k) a h (λ i. ap (slice_get all) (next i) ∙ same (suc i)),
)
  where
    here : k ≡ k + 0
    here = omega arith

    next : (i : ℕ) → suc k + i ≡ k + suc i
    next i = omega arith

-- levels that are begun are so as the store tells it
starts_below : (nothing : ℕ) (letters : List Letter) (sizes : List ℕ) (parents level : ℕ) (a : Arrays)
    → AreBegun nothing letters sizes parents level a → StartsBelow nothing letters sizes parents level a
starts_below nothing [] [] parents level a h = h
starts_below nothing [] (size ∷ sizes) parents level a h = h
starts_below nothing (letter ∷ letters) [] parents level a h = h
starts_below nothing (letter ∷ letters) (size ∷ sizes) parents level a h =
    (h.0, starts_below nothing letters sizes (parents_below letter size parents) (suc level) a h.1)

head_same : {X : Type 0} (x y : X) (xs ys : List X) → x ∷ xs ≡ y ∷ ys → x ≡ y
head_same x y xs ys h = cc

tail_same : {X : Type 0} (x y : X) (xs ys : List X) → x ∷ xs ≡ y ∷ ys → xs ≡ ys
tail_same x y xs ys h = cc

-- the levels of an operand are held
are_held : (ls vs : List StorageLevel) (tensor k : ℕ) (a : Arrays) → vs ≡ ls
    → ((array : LevelArray) (i : ℕ) → a (array_of array tensor (k + i)) ≡ words_of_level array (slice_get vs i))
    → AreHeld ls tensor k a
are_held [] vs tensor k a same h = tt
are_held (l ∷ ls) [] tensor k a same h = absurd (cc)
are_held (l ∷ ls) (v ∷ vs) tensor k a same h = (
  laws.words_hold l tensor k a (λ array words is.
      ap (λ j. a (array_of array tensor j)) here ∙ h array 0 ∙ ap (λ m. meaning.words m array) (head_same v l vs ls same) ∙ is),
  are_held ls vs tensor (suc k) a (tail_same v l vs ls same)
      (λ array i. ap (λ j. a (array_of array tensor j)) (next i) ∙ h array (suc i)),
)
  where
    here : k ≡ k + 0
    here = omega arith

    next : (i : ℕ) → suc k + i ≡ k + suc i
    next i = omega arith

-- so are the operands
operands_held : (ts : List Storage) (os : List Operand) (tensor : ℕ) (a : Arrays) → map lent_of os ≡ map parts_of ts
    → ((array : LevelArray) (i k : ℕ) → a (array_of array (tensor + i) k) ≡ words_of_operand array k (slice_get os i))
    → ((i : ℕ) → a (Values (tensor + i)) ≡ values_of_operand (slice_get os i)) → OperandsHeld ts tensor a
operands_held [] os tensor a same h values = tt
operands_held (t ∷ ts) [] tensor a same h values = absurd (cc)
operands_held (t ∷ ts) (o ∷ os) tensor a same h values =
    let is : lent_of o ≡ parts_of t = head_same (lent_of o) (parts_of t) (map lent_of os) (map parts_of ts) same in (
      record {
        levels = are_held t.levels o.levels.now tensor 1 a (ap (λ (p : Parts). p.levels) is)
            (λ array i. ap (λ j. a (array_of array j (1 + i))) here ∙ h array 0 (1 + i) ∙ numbers i array);
        values = ap (λ j. a (Values j)) here ∙ values 0 ∙ ap (λ (p : Parts). Some p.values) is;
      },
      operands_held ts os (suc tensor) a (tail_same (lent_of o) (parts_of t) (map lent_of os) (map parts_of ts) same)
          (λ array i k. ap (λ j. a (array_of array j k)) (next i) ∙ h array (suc i) k)
          (λ i. ap (λ j. a (Values j)) (next i) ∙ values (suc i)),
    )
  where
    here : tensor ≡ tensor + 0
    here = omega arith

    next : (i : ℕ) → suc tensor + i ≡ tensor + suc i
    next i = omega arith

    numbers : (i : ℕ) (array : LevelArray)
        → words_of_level array (numbered o.levels.now (1 + i)) ≡ words_of_level array (slice_get o.levels.now i)
    numbers i array = let one : 1 + i ≡ suc i = omega arith in ap (λ j. words_of_level array (numbered o.levels.now j)) one

-- a machine that has nothing of its own
pub record IsNew (m : Machine) (lent : LentArrays) : Type 0 where
  pub vars : (x : ℕ) → (state_of m).vars x ≡ None
  pub own : (a : Arr) → own_array m a ≡ None
  pub lent_is : m.lent ≡ lent
  pub turns : (k : LoopKind) → (state_of m).turns k ≡ 0

-- finds what is lent
new_lent : (m : Machine) (lent : LentArrays) (b : Arr) → IsNew m lent → may_write b ≡ false
    → (state_of m).arrays b ≡ lent_array lent b
new_lent m lent b new w = ap (λ t. by_right t (own_array m b) (lent_array m.lent b)) w ∙ ap (λ l. lent_array l b) new.lent_is

-- and no workspace or scratch list
new_scratch : (m : Machine) (lent : LentArrays) → IsNew m lent → (b : Arr) → is_scratch b ≡ true → (state_of m).arrays b ≡ None
new_scratch m lent new Range h = absurd (cc)
new_scratch m lent new (Values n) h = absurd (cc)
new_scratch m lent new (Dimension n k) h = absurd (cc)
new_scratch m lent new (Ends n k) h = absurd (cc)
new_scratch m lent new (Coordinates n k) h = absurd (cc)
new_scratch m lent new (Width n k) h = absurd (cc)
new_scratch m lent new (Key w k) h = new.own (Key w k)
new_scratch m lent new (Sums w) h = new.own (Sums w)
new_scratch m lent new (ListCoordinates g) h = new.own (ListCoordinates g)
new_scratch m lent new (ListPositions g) h = new.own (ListPositions g)

-- arrays that are no scratch arrays belong to no level of the result either
not_from : (level : ℕ) (b : Arr) → is_scratch b ≡ true → IsFrom level b → ⊥
not_from level Range h f = f.2
not_from level (Values n) h f = f.2
not_from level (Dimension n k) h f = cc
not_from level (Ends n k) h f = cc
not_from level (Coordinates n k) h f = cc
not_from level (Width n k) h f = cc
not_from level (Key w k) h f = f.2
not_from level (Sums w) h f = f.2
not_from level (ListCoordinates g) h f = f.2
not_from level (ListPositions g) h f = f.2

no_values : (b : Arr) → is_scratch b ≡ true → same_arr (Values 0) b ≡ false
no_values Range h = refl
no_values (Values n) h = cc
no_values (Dimension n k) h = refl
no_values (Ends n k) h = refl
no_values (Coordinates n k) h = refl
no_values (Width n k) h = refl
no_values (Key w k) h = refl
no_values (Sums w) h = refl
no_values (ListCoordinates g) h = refl
no_values (ListPositions g) h = refl

not_zero : (i : ℕ) → (suc i == 0) ≡ false
not_zero i = grind (arith, nat_tests)

zero_not : (i : ℕ) → (0 == suc i) ≡ false
zero_not i = grind (arith, nat_tests)

pub few_same : (letters : List Letter) (sizes : List ℕ) (parents : ℕ) → StartsFew letters sizes parents → IsFew letters sizes parents
few_same [] [] parents h = tt
few_same [] (size ∷ sizes) parents h = tt
few_same (letter ∷ letters) [] parents h = tt
few_same (letter ∷ letters) (size ∷ sizes) parents h = (h.0, few_same letters sizes (parents_below letter size parents) h.1)

not_made : (letter : Letter) (array : LevelArray) → Lacks letter array → IsNotMade letter array
not_made letter OfSize lacks = no_size letter
not_made letter OfEnds lacks = lacks
not_made letter OfWidth lacks = lacks
not_made letter OfCoordinates lacks = lacks

-- no range is lent of a level that isn't full, nor of one that isn't there
size_lacks : (letters : List Letter) (sizes : List ℕ) (i : ℕ) (letter : Letter) → slice_get letters i ≡ Some letter
    → (properties letter).full ≡ false → size_in (sizes_lent letters sizes) (suc i) ≡ None
size_lacks [] sizes i letter is lacks = refl
size_lacks (first ∷ letters) [] i letter is lacks = refl
size_lacks (first ∷ letters) (size ∷ sizes) zero letter is lacks =
    ap (λ f. then_some f size) (ap (λ l. (properties l).full) (first_is first letter is) ∙ lacks)
  where
    first_is : (x y : Letter) → Some x ≡ Some y → x ≡ y
    first_is x y e = cc
size_lacks (first ∷ letters) (size ∷ sizes) (suc i) letter is lacks = size_lacks letters sizes i letter is lacks

sizes_end : (letters : List Letter) (sizes : List ℕ) (k : ℕ) → length letters < k → size_in (sizes_lent letters sizes) k ≡ None
sizes_end letters sizes zero l = refl
sizes_end letters sizes (suc k) l = ends letters sizes k (omega (arith, l))
  where
    ends : (letters : List Letter) (sizes : List ℕ) (k : ℕ) → length letters ≤ k → if_there (slice_get (sizes_lent letters sizes) k) ≡ None
    ends [] sizes k l = refl
    ends (first ∷ letters) [] k l = refl
    ends (first ∷ letters) (size ∷ sizes) zero l = absurd (omega arith)
    ends (first ∷ letters) (size ∷ sizes) (suc k) l = ends letters sizes k (omega arith)

-- what is lent of operands is what is stored
operand_words : (ts : List Storage) (os : List Operand) (i k : ℕ) (array : LevelArray) → map lent_of os ≡ map parts_of ts
    → words_of_operand array k (slice_get os i) ≡ stored_words (slice_get ts i) k array
operand_words [] [] i k array same = refl
operand_words [] (o ∷ os) i k array same = absurd (cc)
operand_words (t ∷ ts) [] i k array same = absurd (cc)
operand_words (t ∷ ts) (o ∷ os) zero k array same =
    ap (λ (p : Parts). words_in p.levels k array) (head_same (lent_of o) (parts_of t) (map lent_of os) (map parts_of ts) same)
operand_words (t ∷ ts) (o ∷ os) (suc i) k array same =
    operand_words ts os i k array (tail_same (lent_of o) (parts_of t) (map lent_of os) (map parts_of ts) same)

operand_values : (ts : List Storage) (os : List Operand) (i : ℕ) → map lent_of os ≡ map parts_of ts
    → values_of_operand (slice_get os i) ≡ stored_values (slice_get ts i)
operand_values [] [] i same = refl
operand_values [] (o ∷ os) i same = absurd (cc)
operand_values (t ∷ ts) [] i same = absurd (cc)
operand_values (t ∷ ts) (o ∷ os) zero same =
    ap (λ (p : Parts). Some p.values) (head_same (lent_of o) (parts_of t) (map lent_of os) (map parts_of ts) same)
operand_values (t ∷ ts) (o ∷ os) (suc i) same =
    operand_values ts os i (tail_same (lent_of o) (parts_of t) (map lent_of os) (map parts_of ts) same)

-- a machine that was new, and whose arrays were begun, starts on the store
module _ (m m' : Machine) (lent : LentArrays) (kernel : Kernel) (nothing : ℕ) (format : List FormatLevel) (ranges : List ℕ)
    (operands : List Storage) (new : IsNew m lent) (ranges_is : lent.ranges.now ≡ ranges)
    (sizes_is : lent.sizes.items ≡ sizes_lent (letters_of format) (in_level_order format ranges))
    (operands_is : map lent_of lent.operands.items ≡ map parts_of operands)
  where
    abbrev sizes : List ℕ
    sizes = in_level_order format ranges

    abbrev with_result : State
    with_result = begun_result nothing (letters_of format) sizes 1 1 (state_of m)

    kept : (b : Arr) → (IsFrom 1 b → ⊥) → same_arr (Values 0) b ≡ false → with_result.arrays b ≡ (state_of m).arrays b
    kept b h v = result_apart nothing (letters_of format) sizes 1 1 (state_of m) b h v

    words : (array : LevelArray) (i k : ℕ) → with_result.arrays (array_of array (suc i) k)
        ≡ words_of_operand array k (slice_get lent.operands.items i)
    words OfSize i k = kept (Dimension (suc i) k) (λ f. let no = f.2.0 in omega (arith, no)) refl
        ∙ new_lent m lent (Dimension (suc i) k) new refl
    words OfEnds i k = kept (Ends (suc i) k) (λ f. let no = f.2.0 in omega (arith, no)) refl
        ∙ new_lent m lent (Ends (suc i) k) new (not_zero i)
    words OfCoordinates i k = kept (Coordinates (suc i) k) (λ f. let no = f.2.0 in omega (arith, no)) refl
        ∙ new_lent m lent (Coordinates (suc i) k) new (not_zero i)
    words OfWidth i k = kept (Width (suc i) k) (λ f. let no = f.2.0 in omega (arith, no)) refl
        ∙ new_lent m lent (Width (suc i) k) new (not_zero i)

    values : (i : ℕ) → with_result.arrays (Values (suc i)) ≡ values_of_operand (slice_get lent.operands.items i)
    values i = kept (Values (suc i)) (λ f. f.2) (zero_not i) ∙ new_lent m lent (Values (suc i)) new (not_zero i)

    dimensions : (level : ℕ) → (state_of m).arrays (Dimension 0 level) ≡ one_word (size_in (sizes_lent (letters_of format) sizes) level)
    dimensions level = new_lent m lent (Dimension 0 level) new refl ∙ ap (λ ns. one_word (size_in ns level)) sizes_is

    one_more : (i : ℕ) → 1 + i ≡ suc i
    one_more i = omega arith

    from_none : (i : ℕ) → 0 + i ≡ i
    from_none i = omega arith

    pub given : IsGiven nothing (store_of ranges operands format) with_result.arrays
    given = record {
      ranges = kept Range (λ f. f.2) refl ∙ new_lent m lent Range new refl ∙ ap Some ranges_is;
      operands = operands_held operands lent.operands.items 1 with_result.arrays operands_is
          (λ array i k. ap (λ j. with_result.arrays (array_of array j k)) (one_more i) ∙ words array i k)
          (λ i. ap (λ j. with_result.arrays (Values j)) (one_more i) ∙ values i);
      result = starts_below nothing (letters_of format) sizes 1 1 with_result.arrays
          (result_begun nothing (letters_of format) sizes 1 1 (state_of m)
          (has_sizes (sizes_lent (letters_of format) sizes) (letters_of format) sizes 0 (state_of m).arrays dimensions
          (λ i. ap (slice_get (sizes_lent (letters_of format) sizes)) (from_none i))));
    }

    -- arrays of the result that a new machine doesn't have
    new_none : (k : ℕ) (array : LevelArray) → (array ≡ OfSize → size_in (sizes_lent (letters_of format) sizes) k ≡ None)
        → (state_of m).arrays (array_of array 0 k) ≡ None
    new_none k OfSize none = dimensions k ∙ ap one_word (none refl)
    new_none k OfEnds none = new.own (Ends 0 k)
    new_none k OfWidth none = new.own (Width 0 k)
    new_none k OfCoordinates none = new.own (Coordinates 0 k)

    lacking : (i : ℕ) (letter : Letter) (array : LevelArray) → slice_get (letters_of format) i ≡ Some letter → Lacks letter array
        → with_result.arrays (array_of array 0 (suc i)) ≡ None
    lacking i letter array is lacks =
        ap (λ k. with_result.arrays (array_of array 0 k)) (sym (one_more i))
        ∙ result_lacks nothing (letters_of format) sizes 1 1 i (state_of m) letter array is (not_made letter array lacks)
        ∙ ap (λ k. (state_of m).arrays (array_of array 0 k)) (one_more i)
        ∙ new_none (suc i) array (λ e. size_lacks (letters_of format) sizes i letter is (subst (Lacks letter) e lacks))

    no_scratch : NoScratch with_result
    no_scratch b h = kept b (not_from 1 b h) (no_values b h) ∙ new_scratch m lent new b h

    no_more : HaveNoMore (store_of ranges operands format) with_result.arrays
    no_more = record {
      lacking = lacking;
      above = λ array. result_above nothing (letters_of format) sizes 1 1 0 (state_of m) array (omega arith)
          ∙ new_none 0 array (λ e. refl);
      behind = λ k array l. result_behind nothing (letters_of format) sizes 1 1 k (state_of m) array (omega arith)
          ∙ new_none k array (λ e. sizes_end (letters_of format) sizes k l);
      operands = λ i k array. words array i k
          ∙ operand_words operands lent.operands.items i k array operands_is;
      values = λ i. values i ∙ operand_values operands lent.operands.items i operands_is;
      scratch = no_scratch;
    }

    abbrev with_all : State
    with_all = with_lists kernel.lists (with_workspaces kernel.workspaces 0 with_result)

    vars_same : with_all.vars ≡ (λ x. None)
    vars_same = (lists_same kernel.lists (with_workspaces kernel.workspaces 0 with_result)).0
        ∙ (workspaces_same kernel.workspaces 0 with_result).0
        ∙ (result_same nothing (letters_of format) sizes 1 1 (state_of m)).0 ∙ (λ i x. new.vars x i)

    turns_same : with_all.turns ≡ (λ k. 0)
    turns_same = (lists_same kernel.lists (with_workspaces kernel.workspaces 0 with_result)).1
        ∙ (workspaces_same kernel.workspaces 0 with_result).1
        ∙ (result_same nothing (letters_of format) sizes 1 1 (state_of m)).1 ∙ (λ i k. new.turns k i)

    pub starts_on : state_of m' ≡ with_all → StartsOn nothing kernel (store_of ranges operands format) m'
    starts_on is = record {
      given = with_result.arrays;
      is_given = given;
      no_more = no_more;
      is = is ∙ (λ i. record { vars = vars_same i; arrays = λ a. scratch_begun kernel with_result no_scratch a i; turns = turns_same i });
    }
