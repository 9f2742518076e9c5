-- One step of each list from which arrays are begun.
use Rattle.std.specs.Prelude.{◌≡◌, ℕ, zero, suc, ◌+◌, ◌<◌, ◌≤◌, true, List, [], ◌∷◌, ◌++◌, Option, length, drop, replicate}
use Rattle.std.specs.Prelude.{slice_index_or, Some, None, refl}
use Rattle.std.specs.Bool.{then_some}
use Rattle.std.proofs.Common.{◌∙◌, sym, ap, subst, arith, append_assoc, append-nil}
use Rattle.kernel_code.specs.declared.syntax.Arr.TheVariants.{Values}
use Rattle.kernel_code.specs.Arrays.{may_write}
use Rattle.kernel_code.specs.Meaning.{State, set_array}
use Rattle.format_spec.specs.declared.format.FormatLevel.{FormatLevel}
use Rattle.format_spec.specs.Formats.{letters_of}
use Rattle.machine_starts.specs.Begun.{begun, begun_result, sizes_lent, IsFew}
use Rattle.level_core.specs.declared.arrays.LevelArray.{LevelArray}
use Rattle.level_core.specs.declared.arrays.LevelArray.TheVariants.{Dimension as OfSize, Ends as OfEnds}
use Rattle.level_core.specs.declared.arrays.LevelArray.TheVariants.{Coordinates as OfCoordinates, Width as OfWidth}
use Rattle.level_core.specs.Arrays.{array_of}
use Rattle.level_core.specs.declared.letter.Letter.{Letter}
use Rattle.level_core.specs.Kinds.{properties, parents_below, zeros_at_start}
use Rattle.level_core.proofs.KindLaws.{no_size as no_array}

-- no range of a level is made
pub no_size : (letter : Letter) (parents count : ℕ) → zeros_at_start letter OfSize parents ≡ Some count → ⊥
no_size letter parents count made = some_none (sym made ∙ no_array letter parents)
  where
    some_none : Some count ≡ None → ⊥
    some_none h = cc

-- what is made may be written
pub writable : (letter : Letter) (array : LevelArray) (parents level count : ℕ) → zeros_at_start letter array parents ≡ Some count
    → may_write (array_of array 0 level) ≡ true
writable letter OfSize parents level count h = absurd (no_size letter parents count h)
writable letter OfEnds parents level count h = refl
writable letter OfWidth parents level count h = refl
writable letter OfCoordinates parents level count h = refl

pub drop_here : {X : Type 0} (xs : List X) (i : ℕ) (d : X) → i < length xs → drop i xs ≡ slice_index_or xs i d ∷ drop (suc i) xs
drop_here [] i d l = absurd (omega arith)
drop_here (x ∷ xs) zero d l = refl
drop_here (x ∷ xs) (suc i) d l = drop_here xs i d (omega arith)

drop_letters : (format : List FormatLevel) (i : ℕ) (d : FormatLevel) → i < length format
    → drop i (letters_of format) ≡ (slice_index_or format i d).letter ∷ drop (suc i) (letters_of format)
drop_letters [] i d l = absurd (omega arith)
drop_letters (f ∷ format) zero d l = refl
drop_letters (f ∷ format) (suc i) d l = drop_letters format i d (omega arith)

-- what is left of the levels has few positions
pub few_here : (format : List FormatLevel) (sizes : List ℕ) (i parents : ℕ) (d : FormatLevel) → i < length format → i < length sizes
    → IsFew (drop i (letters_of format)) (drop i sizes) parents
    → IsFew ((slice_index_or format i d).letter ∷ drop (suc i) (letters_of format)) (slice_index_or sizes i 0 ∷ drop (suc i) sizes) parents
few_here format sizes i parents d l m few =
    subst (λ ns. IsFew ((slice_index_or format i d).letter ∷ drop (suc i) (letters_of format)) ns parents) (drop_here sizes i 0 m)
    (subst (λ ls. IsFew ls (drop i sizes) parents) (drop_letters format i d l) few)

pub few_next : (format : List FormatLevel) (sizes : List ℕ) (i parents next : ℕ) (d : FormatLevel) → i < length format → i < length sizes
    → IsFew (drop i (letters_of format)) (drop i sizes) parents
    → next ≡ parents_below (slice_index_or format i d).letter (slice_index_or sizes i 0) parents
    → IsFew (drop (i + 1) (letters_of format)) (drop (i + 1) sizes) next
few_next format sizes i parents next d l m few is =
    let one : i + 1 ≡ suc i = omega arith in
    subst (λ n. IsFew (drop n (letters_of format)) (drop n sizes) next) (sym one)
    (subst (IsFew (drop (suc i) (letters_of format)) (drop (suc i) sizes)) (sym is) (few_here format sizes i parents d l m few).1)

-- one more level is begun
pub result_next : (nothing : ℕ) (format : List FormatLevel) (sizes : List ℕ) (i parents next : ℕ) (d : FormatLevel) (s t : State)
    → i < length format → i < length sizes → next ≡ parents_below (slice_index_or format i d).letter (slice_index_or sizes i 0) parents
    → t ≡ begun (slice_index_or format i d).letter parents (i + 1) s
    → begun_result nothing (drop (i + 1) (letters_of format)) (drop (i + 1) sizes) next (i + 1 + 1) t
    ≡ begun_result nothing (drop i (letters_of format)) (drop i sizes) parents (i + 1) s
result_next nothing format sizes i parents next d s t l m is made =
    let one : i + 1 ≡ suc i = omega arith in
    let two : i + 1 + 1 ≡ suc (i + 1) = omega arith in
    ap (λ n. begun_result nothing (drop n (letters_of format)) (drop n sizes) next (i + 1 + 1) t) one
    ∙ ap (λ n. begun_result nothing (drop (suc i) (letters_of format)) (drop (suc i) sizes) next n t) two
    ∙ ap (λ p. begun_result nothing (drop (suc i) (letters_of format)) (drop (suc i) sizes) p (suc (i + 1)) t) is
    ∙ ap (begun_result nothing (drop (suc i) (letters_of format)) (drop (suc i) sizes)
    (parents_below (slice_index_or format i d).letter (slice_index_or sizes i 0) parents) (suc (i + 1))) made
    ∙ sym (ap (λ ls. begun_result nothing ls (drop i sizes) parents (i + 1) s) (drop_letters format i d l)
    ∙ ap (λ ns. begun_result nothing ((slice_index_or format i d).letter ∷ drop (suc i) (letters_of format)) ns parents (i + 1) s)
    (drop_here sizes i 0 m))

drop_none : (format : List FormatLevel) (i : ℕ) → length format ≤ i → drop i (letters_of format) ≡ []
drop_none [] zero l = refl
drop_none [] (suc i) l = refl
drop_none (f ∷ format) zero l = absurd (omega arith)
drop_none (f ∷ format) (suc i) l = drop_none format i (omega arith)

no_levels : (nothing : ℕ) (sizes : List ℕ) (parents level : ℕ) (s : State)
    → begun_result nothing [] sizes parents level s ≡ set_array s (Values 0) (replicate parents nothing)
no_levels nothing [] parents level s = refl
no_levels nothing (size ∷ sizes) parents level s = refl

-- behind the last level the values are begun
pub result_done : (nothing : ℕ) (format : List FormatLevel) (sizes : List ℕ) (i parents level : ℕ) (s : State) → length format ≤ i
    → begun_result nothing (drop i (letters_of format)) sizes parents level s ≡ set_array s (Values 0) (replicate parents nothing)
result_done nothing format sizes i parents level s l =
    ap (λ ls. begun_result nothing ls sizes parents level s) (drop_none format i l) ∙ no_levels nothing sizes parents level s

-- the range of one more level is lent
pub lent_next : (format : List FormatLevel) (sizes : List ℕ) (i : ℕ) (d : FormatLevel) (lent : List (Option ℕ)) → i < length format
    → i < length sizes
    → (lent ++ then_some (properties (slice_index_or format i d).letter).full (slice_index_or sizes i 0) ∷ [])
    ++ sizes_lent (drop (i + 1) (letters_of format)) (drop (i + 1) sizes)
    ≡ lent ++ sizes_lent (drop i (letters_of format)) (drop i sizes)
lent_next format sizes i d lent l m =
    let one : i + 1 ≡ suc i = omega arith in
    let size : Option ℕ = then_some (properties (slice_index_or format i d).letter).full (slice_index_or sizes i 0) in
    ap (λ n. (lent ++ size ∷ []) ++ sizes_lent (drop n (letters_of format)) (drop n sizes)) one
    ∙ append_assoc lent (size ∷ []) (sizes_lent (drop (suc i) (letters_of format)) (drop (suc i) sizes))
    ∙ sym (ap (λ ls. lent ++ sizes_lent ls (drop i sizes)) (drop_letters format i d l)
    ∙ ap (λ ns. lent ++ sizes_lent ((slice_index_or format i d).letter ∷ drop (suc i) (letters_of format)) ns) (drop_here sizes i 0 m))

-- behind the last level none is
pub lent_done : (format : List FormatLevel) (sizes : List ℕ) (i : ℕ) (lent : List (Option ℕ)) → length format ≤ i
    → lent ≡ lent ++ sizes_lent (drop i (letters_of format)) sizes
lent_done format sizes i lent l =
    sym (append-nil lent) ∙ ap (λ ls. lent ++ sizes_lent ls sizes) (sym (drop_none format i l))
