-- Lemmas about what specs/RangeLaws.antt defines.
use Rattle.std.specs.Prelude.{◌≡◌, ◌≢◌, ℕ, zero, suc, ◌+◌, ◌<◌, ◌≤◌, max, Bool, true, false, nat_eq, ◌||◌, cond, if◌then◌else◌, List}
use Rattle.std.specs.Prelude.{[], ◌∷◌, ◌++◌, map, length, None, Ok, Result, All, option_to_list, slice_get, slice_index, slice_index_or}
use Rattle.std.specs.Prelude.{filter_map, refl}
use Rattle.std.proofs.Common.{◌∙◌, ap, arith}
use Rattle.std.proofs.lemmas.Bool.{eq-eqb}
use Rattle.tensor_map.specs.Entries.{Entry, IsGreatest}
use Rattle.index_notation.specs.Statement.{numbers_from, IsWellNamed}
use Rattle.lists.specs.Each.{Each}
use Rattle.index_notation.specs.declared.syntax.Access.{Access}
use Rattle.index_notation.specs.declared.syntax.Statement.{Statement}
use Rattle.expr_terms.proofs.PointLaws.{unequal}
use Rattle.expr_terms.specs.Terms.{contains}
use Rattle.expr_terms.proofs.TermLaws.{each_number}
use Rattle.expr_terms.specs.Ranges.{greatest_of, Place, places_from, places_in, ranges_at, mode_size, reach, narrow_ranges, AtLeast}
use Rattle.expr_terms.specs.Ranges.{RangeFault, exact_of, settled, range_of, and_range, ranges_or_first, ranges_of}
use Rattle.expr_terms.specs.RangeLaws.{stands_at, IsSomething}

-- of two lists, one after the other
pub greatest_append : (ms ns : List ℕ) → greatest_of (ms ++ ns) ≡ max (greatest_of ms) (greatest_of ns)
greatest_append [] ns = omega arith
greatest_append (m ∷ ms) ns = let rest : greatest_of (ms ++ ns) ≡ max (greatest_of ms) (greatest_of ns) =
    greatest_append ms ns in omega arith

-- each entry is below
pub reach_above : (entries : List Entry) (mode k : ℕ) (d : Entry) → k < length entries
    → slice_index (slice_index_or entries k d).coords mode < reach entries mode
reach_above [] mode k d h = absurd (omega arith)
reach_above (entry ∷ entries) mode zero d h = omega arith
reach_above (entry ∷ entries) mode (suc k) d h = let rest : slice_index (slice_index_or entries k d).coords mode < reach entries mode =
    reach_above entries mode k d (omega arith) in omega arith

reach_within : (entries : List Entry) (mode c : ℕ) → All (λ entry. slice_index entry.coords mode ≤ c) entries → reach entries mode ≤ c + 1
reach_within [] mode c most = omega arith
reach_within (entry ∷ entries) mode c most =
    let first : slice_index entry.coords mode ≤ c = most 0 entry (omega arith) in
    let rest : reach entries mode ≤ c + 1 = reach_within entries mode c (λ k d h. most (suc k) d (omega arith)) in
    omega arith

-- with a greatest coordinate, the reach is one more
pub reach_of_greatest : (entries : List Entry) (mode c : ℕ) → IsGreatest entries mode c → reach entries mode ≡ c + 1
reach_of_greatest [] mode c greatest = absurd (let h : greatest.found.0 < length {A = Entry} [] = greatest.found.1 in omega arith)
reach_of_greatest (entry ∷ entries) mode c greatest =
    let k : ℕ = greatest.found.0 in
    let below : k < length (entry ∷ entries) = greatest.found.1 in
    let is : slice_index (slice_index_or (entry ∷ entries) k entry).coords mode ≡ c = greatest.found.2 entry in
    let above : slice_index (slice_index_or (entry ∷ entries) k entry).coords mode < reach (entry ∷ entries) mode =
    reach_above (entry ∷ entries) mode k entry below in
    let within : reach (entry ∷ entries) mode ≤ c + 1 = reach_within (entry ∷ entries) mode c greatest.most in
    omega arith

something_more : (places more : List Place) → IsSomething more → IsSomething (places ++ more)
something_more [] more some = some
something_more (place ∷ places) more some = tt

something_first : (places more : List Place) → IsSomething places → IsSomething (places ++ more)
something_first [] more some = absurd some
something_first (place ∷ places) more some = tt

place_from : (tensor mode : ℕ) (vars : List ℕ) (v : ℕ) → contains vars v ≡ true → IsSomething (places_from tensor mode vars v)
place_from tensor mode [] v here = absurd cc
place_from tensor mode (w ∷ vars) v here = by (nat_eq w v) here (place_from tensor (mode + 1) vars v)
  where
    by : (b : Bool) → (b || contains vars v) ≡ true → (contains vars v ≡ true → IsSomething (places_from tensor (mode + 1) vars v))
        → IsSomething (cond b (record { tensor = tensor; mode = mode } ∷ places_from tensor (mode + 1) vars v)
        (places_from tensor (mode + 1) vars v))
    by true here rest = tt
    by false here rest = rest here

pub place_in : (accesses : List Access) (v : ℕ) → stands_at accesses v ≡ true → IsSomething (places_in accesses v)
place_in [] v here = absurd cc
place_in (access ∷ accesses) v here = by (contains access.vars v) refl here (place_in accesses v)
  where
    by : (b : Bool) → contains access.vars v ≡ b → (b || stands_at accesses v) ≡ true
        → (stands_at accesses v ≡ true → IsSomething (places_in accesses v)) → IsSomething (places_in (access ∷ accesses) v)
    by true e here rest =
        something_first (places_from access.tensor 0 access.vars v) (places_in accesses v) (place_from access.tensor 0 access.vars v e)
    by false e here rest = something_more (places_from access.tensor 0 access.vars v) (places_in accesses v) (rest here)

-- where there are no words and each mode only bounds, the whole rule gives the greatest reach
none_exact : (bound : ℕ → ℕ → ℕ) (places : List Place)
    → filter_map (λ place. exact_of (AtLeast (bound place.tensor place.mode))) places ≡ []
none_exact bound [] = refl
none_exact bound (place ∷ places) = none_exact bound places

bounded : (v : ℕ) (entries : ℕ → List Entry) (places : List Place) → IsSomething places
    → settled v (filter_map (λ place. exact_of (AtLeast (reach (entries place.tensor) place.mode))) places)
    (λ tensor mode. AtLeast (reach (entries tensor) mode)) places
    ≡ Ok (greatest_of (map (λ place. reach (entries place.tensor) place.mode) places))
bounded v entries [] some = absurd some
bounded v entries (place ∷ places) some =
    ap (λ exact. settled v exact (λ tensor mode. AtLeast (reach (entries tensor) mode)) (place ∷ places))
    (none_exact (λ tensor mode. reach (entries tensor) mode) (place ∷ places))

pub narrow_range : (s : Statement) (entries : ℕ → List Entry) (v : ℕ) → stands_at s.accesses v ≡ true
    → range_of s (λ w. None) (λ tensor mode. AtLeast (reach (entries tensor) mode)) v ≡ Ok (narrow_ranges s entries v)
narrow_range s entries v here = bounded v entries (places_in s.accesses v) (place_in s.accesses v here)

all_ranges : (range : ℕ → Result ℕ RangeFault) (narrow : ℕ → ℕ) (vs : List ℕ) → Each (λ v. range v ≡ Ok (narrow v)) vs
    → ranges_or_first range vs ≡ Ok (map narrow vs)
all_ranges range narrow [] each = refl
all_ranges range narrow (v ∷ vs) each =
    ap (λ r. and_range r (ranges_or_first range vs)) each.0 ∙ ap (and_range (Ok (narrow v))) (all_ranges range narrow vs each.1)

pub narrow_is_whole : (s : Statement) (entries : ℕ → List Entry) → ((v : ℕ) → v < length s.vars → stands_at s.accesses v ≡ true)
    → ranges_of s (λ w. None) (λ tensor mode. AtLeast (reach (entries tensor) mode)) ≡ Ok
    (map (narrow_ranges s entries) (numbers_from 0 (length s.vars)))
narrow_is_whole s entries each =
    let range : ℕ → Result ℕ RangeFault = range_of s (λ w. None) (λ tensor mode. AtLeast (reach (entries tensor) mode)) in
    all_ranges range (narrow_ranges s entries) (numbers_from 0 (length s.vars))
    (each_number (λ v. range v ≡ Ok (narrow_ranges s entries v)) 0 (length s.vars)
    (λ v h g. narrow_range s entries v (each v (omega arith))))

-- the modes of the result have the ranges of the left variables
unread_ranges : (ranges : ℕ → ℕ) (mode : ℕ) (accesses : List Access) → Each (λ access. access.tensor ≢ 0) accesses
    → ranges_at ranges 0 mode accesses ≡ []
unread_ranges ranges mode [] each = refl
unread_ranges ranges mode (access ∷ accesses) each =
    ap (λ b. if b then (map ranges (option_to_list (slice_get access.vars mode)) ++ ranges_at ranges 0 mode accesses) else ranges_at
    ranges 0 mode accesses) (unequal access.tensor 0 each.0)
    ∙ unread_ranges ranges mode accesses each.1

range_there : (ranges : ℕ → ℕ) (vars : List ℕ) (mode : ℕ) → mode < length vars
    → greatest_of (map ranges (option_to_list (slice_get vars mode)) ++ []) ≡ ranges (slice_index vars mode)
range_there ranges [] mode h = absurd (omega arith)
range_there ranges (v ∷ vars) zero h = omega arith
range_there ranges (v ∷ vars) (suc mode) h = range_there ranges vars mode (omega arith)

pub size_of_result : (s : Statement) → IsWellNamed s → (ranges : ℕ → ℕ) (mode : ℕ) → mode < length s.left.vars
    → mode_size s ranges 0 mode ≡ ranges (slice_index s.left.vars mode)
size_of_result s named ranges mode h =
    ap (λ b. greatest_of (if b then (map ranges (option_to_list (slice_get s.left.vars mode)) ++ ranges_at ranges 0 mode s.accesses)
    else ranges_at ranges 0 mode s.accesses)) (eq-eqb s.left.tensor 0 named.result)
    ∙ ap (λ rest. greatest_of (map ranges (option_to_list (slice_get s.left.vars mode)) ++ rest))
    (unread_ranges ranges mode s.accesses named.unread)
    ∙ range_there ranges s.left.vars mode h
