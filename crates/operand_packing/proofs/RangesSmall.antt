-- No range of a statement's variables is too large: words and files keep to their limits.
use Rattle.std.specs.Prelude.{◌≡◌, ℕ, zero, suc, ◌<◌, ◌≤◌, Bool, true, false, nat_lt, not, if◌then◌else◌}
use Rattle.std.specs.Prelude.{List, [], ◌∷◌, map, take, length, Option, None, Some, Result, Ok, Err, All, option_to_list, filter_map}
use Rattle.std.specs.Prelude.{slice_get, slice_index_or, refl}
use Rattle.std.specs.List.{cons_option}
use Rattle.std.specs.Str.Parse.{digits_value}
use Rattle.std.proofs.Common.{◌∙◌, sym, subst, arith}
use Rattle.std.proofs.lemmas.Bool.Decides.{nat_tests}
use Rattle.lists.specs.Each.{Each}
use Rattle.lists.proofs.Each.{each_get, each_append, all_from}
use Rattle.limits.specs.Limits.{greatest_position_count, greatest_range_word}
use Rattle.limits.proofs.Limits.{range_words_are_ranges}
use Rattle.index_notation.specs.declared.syntax.Statement.{Statement}
use Rattle.index_notation.specs.Statement.{numbers_from}
use Rattle.bindings.specs.Words.{Said, SaysFormat, SaysFile, SaysRange, said_of}
use Rattle.bindings.specs.Bindings.{or_later, first_in, range_in, number_in, names_for, is_bound, fault_of}
use Rattle.bindings.specs.Outcome.{Binds}
use Rattle.bindings.specs.declared.fault.WordFault.TheVariants.{UnknownName, Twice, RangeLimit}
use Rattle.format_spec.specs.declared.format.FormatLevel.{FormatLevel}
use Rattle.expr_terms.specs.declared.bound.Bound.{Bound}
use Rattle.expr_terms.specs.declared.bound.Bound.TheVariants.{Exact, AtLeast}
use Rattle.expr_terms.specs.declared.range_fault.RangeFault.{RangeFault}
use Rattle.expr_terms.specs.declared.bound.Place.{Place}
use Rattle.expr_terms.specs.Ranges.{greatest_of, places_in, exact_of, least_of}
use Rattle.expr_terms.specs.Ranges.{exact_ranges, first_other, first_above, unless_above, exact_range, bounded_range, settled, range_of}
use Rattle.expr_terms.specs.Ranges.{and_range, ranges_or_first, ranges_of}
use Rattle.expr_terms.specs.Told.{word_or_none, given_at}
use Rattle.operand_packing.specs.Operands.{limit_of}

abbrev IsSmall : ℕ → Type 0
IsSmall n = n ≤ greatest_position_count

-- ---- of one variable
least_small : (bound : Bound) → IsSmall (limit_of bound) → IsSmall (least_of bound)
least_small (Exact n) h = omega (arith, h)
least_small (AtLeast n) h = h

exact_small : (bound : Bound) (n : ℕ) → IsSmall (limit_of bound) → exact_of bound ≡ Some n → IsSmall n
exact_small (Exact m) n h is = let same : m ≡ n = cc in omega (arith, h, same)
exact_small (AtLeast m) n h is = absurd cc

greatest_small : (ns : List ℕ) → Each IsSmall ns → IsSmall (greatest_of ns)
greatest_small [] each = omega arith
greatest_small (n ∷ ns) each = let rest = greatest_small ns each.1 in let first = each.0 in omega (arith, rest, first)

module _ (bounds : ℕ → ℕ → Bound) (small : (tensor mode : ℕ) → IsSmall (limit_of (bounds tensor mode))) where
  least_each : (places : List Place) → Each IsSmall (map (λ p. least_of (bounds p.tensor p.mode)) places)
  least_each [] = tt
  least_each (p ∷ places) = (least_small (bounds p.tensor p.mode) (small p.tensor p.mode), least_each places)

  exact_each : (places : List Place) → Each IsSmall (filter_map (λ p. exact_of (bounds p.tensor p.mode)) places)
  exact_each [] = tt
  exact_each (p ∷ places) = by (exact_of (bounds p.tensor p.mode)) refl (exact_each places)
    where
      by : (o : Option ℕ) → exact_of (bounds p.tensor p.mode) ≡ o → Each IsSmall
          (filter_map (λ p. exact_of (bounds p.tensor p.mode)) places)
          → Each IsSmall (cons_option o (filter_map (λ p. exact_of (bounds p.tensor p.mode)) places))
      by None is rest = rest
      by (Some n) is rest = (exact_small (bounds p.tensor p.mode) n (small p.tensor p.mode) is, rest)

  given_each : (given : Option ℕ) → ((n : ℕ) → given ≡ Some n → IsSmall n) → Each IsSmall (option_to_list given)
  given_each None h = tt
  given_each (Some n) h = (h n refl, tt)

  exact_found : (v first range : ℕ) (other : Option ℕ) (above : Option Place)
      → exact_range v first other (unless_above first bounds above) ≡ Ok range → first ≡ range
  exact_found v first range (Some other) above is = absurd cc
  exact_found v first range None (Some place) is = absurd cc
  exact_found v first range None None is = cc

  bounded_small : (v range : ℕ) (places : List Place) → bounded_range v bounds places ≡ Ok range → IsSmall range
  bounded_small v range [] is = absurd cc
  bounded_small v range (p ∷ places) is =
      let same : greatest_of (map (λ p. least_of (bounds p.tensor p.mode)) (p ∷ places)) ≡ range = cc in
      subst IsSmall same (greatest_small (map (λ p. least_of (bounds p.tensor p.mode)) (p ∷ places)) (least_each (p ∷ places)))

  settled_small : (v range : ℕ) (exact : List ℕ) (places : List Place) → Each IsSmall exact → settled v exact bounds places ≡ Ok range →
      IsSmall range
  settled_small v range [] places each is = bounded_small v range places is
  settled_small v range (first ∷ others) places each is =
      subst IsSmall (exact_found v first range (first_other first others) (first_above first bounds places) is) each.0

  range_small : (s : Statement) (given : ℕ → Option ℕ) (v range : ℕ) → ((n : ℕ) → given v ≡ Some n → IsSmall n)
      → range_of s given bounds v ≡ Ok range → IsSmall range
  range_small s given v range words is =
      settled_small v range (exact_ranges (given v) bounds (places_in s.accesses v)) (places_in s.accesses v)
      (each_append IsSmall (option_to_list (given v)) (filter_map (λ p. exact_of (bounds p.tensor p.mode)) (places_in s.accesses v))
      (given_each (given v) words) (exact_each (places_in s.accesses v))) is

-- ---- of all variables
all_small : (range : ℕ → Result ℕ RangeFault) (vs ranges : List ℕ) → ((v r : ℕ) → range v ≡ Ok r → IsSmall r)
    → ranges_or_first range vs ≡ Ok ranges → Each IsSmall ranges
all_small range [] ranges small is = let none : [] ≡ ranges = cc in subst (Each IsSmall) none tt
all_small range (v ∷ vs) ranges small is =
    by (range v) (ranges_or_first range vs) (λ r. small v r) (λ rs. all_small range vs rs small) is
  where
    by : (a : Result ℕ RangeFault) (b : Result (List ℕ) RangeFault) → ((r : ℕ) → a ≡ Ok r → IsSmall r)
        → ((rs : List ℕ) → b ≡ Ok rs → Each IsSmall rs) → and_range a b ≡ Ok ranges → Each IsSmall ranges
    by (Err fault) b one more is = absurd cc
    by (Ok x) (Err fault) one more is = absurd cc
    by (Ok x) (Ok xs) one more is = let all : x ∷ xs ≡ ranges = cc in subst (Each IsSmall) all (one x refl, more xs refl)

pub ranges_small : (s : Statement) (given : ℕ → Option ℕ) (bounds : ℕ → ℕ → Bound) (ranges : List ℕ)
    → ((v n : ℕ) → given v ≡ Some n → IsSmall n) → ((tensor mode : ℕ) → IsSmall (limit_of (bounds tensor mode)))
    → ranges_of s given bounds ≡ Ok ranges → All (λ range. range ≤ greatest_position_count) ranges
ranges_small s given bounds ranges words small is =
    let each : Each IsSmall ranges = all_small (range_of s given bounds) (numbers_from 0 (length s.vars)) ranges
    (λ v r. range_small bounds small s given v r (words v)) is in
    all_from IsSmall ranges (λ n x at. each_get IsSmall ranges n x each at)

-- ---- what words give
pub first_found : {X : Type 0} (pick : Option Said → Option X) (words : List (List ℕ)) (x : X) → first_in pick words ≡ Some x
    → (k : ℕ) × (k < length words) × (pick (said_of (slice_index_or words k [])) ≡ Some x)
first_found pick [] x is = absurd cc
first_found {X} pick (word ∷ words) x is = by (pick (said_of word)) refl is (λ h. first_found pick words x h)
  where
    by : (o : Option X) → pick (said_of word) ≡ o → or_later o (first_in pick words) ≡ Some x
        → (first_in pick words ≡ Some x → (k : ℕ) × (k < length words) × (pick (said_of (slice_index_or words k [])) ≡ Some x))
        → (k : ℕ) × (k < length (word ∷ words)) × (pick (said_of (slice_index_or (word ∷ words) k [])) ≡ Some x)
    by None here is more = let rest = more is in (suc rest.0, (let h = rest.1 in omega (arith, h)), rest.2)
    by (Some y) here is more = (0, omega arith, here ∙ is)

-- a range of a word without a fault
range_within : (b : Bool) (name n m : ℕ) → (if b then Some n else None) ≡ Some m → n ≡ m
range_within true name n m is = cc
range_within false name n m is = absurd cc

within_limit : (unknown bound : Bool) (n : ℕ)
    → (if unknown then Some UnknownName else (if bound then Some Twice else
    (if nat_lt greatest_range_word n then Some RangeLimit else None))) ≡ None
    → IsSmall n
within_limit true bound n none = absurd cc
within_limit false true n none = absurd cc
within_limit false false n none = by (nat_lt greatest_range_word n) refl none
  where
    by : (b : Bool) → nat_lt greatest_range_word n ≡ b → (if b then Some RangeLimit else None) ≡ None → IsSmall n
    by true is none = absurd cc
    by false is none = let h : n ≤ greatest_range_word = grind (arith, nat_tests, is) in omega (arith, h, range_words_are_ranges)

word_small : (s : Statement) (before : List (List ℕ)) (said : Option Said) (v n : ℕ) → fault_of s before said ≡ None → range_in s v said ≡
    Some n → IsSmall n
word_small s before None v n none is = absurd cc
word_small s before (Some (SaysFormat name text)) v n none is = absurd cc
word_small s before (Some (SaysFile name path)) v n none is = absurd cc
word_small s before (Some (SaysRange name digits)) v n none is =
    subst IsSmall (range_within _ 0 (digits_value 10 digits) n is)
    (within_limit (not (nat_lt (number_in s (SaysRange name digits)) (length (names_for s (SaysRange name digits)))))
    (is_bound s before (SaysRange name digits)) (digits_value 10 digits) none)

slice_there : {A : Type 0} (xs : List A) (n : ℕ) (x d : A) → slice_get xs n ≡ Some x → (n < length xs) × (slice_index_or xs n d ≡ x)
slice_there [] n x d is = absurd cc
slice_there (y ∷ xs) zero x d is = (omega arith, cc)
slice_there (y ∷ xs) (suc n) x d is = let rest = slice_there xs n x d is in ((let h = rest.0 in omega (arith, h)), rest.1)

pub given_small : (s : Statement) (words : List (List ℕ)) (need : Bool) (formats : List (List FormatLevel))
    (files : List (ℕ × List ℕ)) (given : List (Option ℕ)) → Binds s words need formats files given
    → (v n : ℕ) → given_at given v ≡ Some n → IsSmall n
given_small s words need formats files given binds v n is = by (slice_get given v) refl is
  where
    by : (o : Option (Option ℕ)) → slice_get given v ≡ o → word_or_none o ≡ Some n → IsSmall n
    by None at is = absurd cc
    by (Some word) at is =
        let there = slice_there given v word None at in
        let below = there.0 in
        let first : first_in (range_in s v) words ≡ Some n =
        sym (binds.ranges_are v None (omega (arith, below, binds.variables))) ∙ there.1 ∙ is in
        let found = first_found (range_in s v) words n first in
        word_small s (take found.0 words) (said_of (slice_index_or words found.0 [])) v n (binds.sound found.0 found.1) found.2
