-- The ranges of a statement's variables are above the coordinates of its operands: where a word or a file tells a range it is
-- exact and no coordinate passes it, and else it is the greatest bound.
use Rattle.std.specs.Prelude.{◌≡◌, ℕ, zero, suc, ◌+◌, ◌<◌, ◌≤◌, Bool, true, false, nat_eq, nat_lt, if◌then◌else◌}
use Rattle.std.specs.Prelude.{List, [], ◌∷◌, ◌++◌, map, length, Option, None, Some, Result, Ok, Err, option_to_list, filter_map}
use Rattle.std.specs.Prelude.{All, slice_get, slice_index, slice_index_or, refl}
use Rattle.std.proofs.Common.{◌∙◌, sym, ap, subst, arith}
use Rattle.std.proofs.lemmas.Bool.{eq-eqb}
use Rattle.std.proofs.lemmas.Bool.Decides.{nat_tests}
use Rattle.std.specs.List.{cons_option}
use Rattle.lists.specs.Each.{Each}
use Rattle.lists.proofs.Each.{each_get, each_from, each_append}
use Rattle.std.proofs.lemmas.List.{get_or_default}
use Rattle.tensor_map.specs.Entries.{Entries}
use Rattle.index_notation.specs.Statement.{IsAccess, IsNumberedWithSums, numbers_from}
use Rattle.index_notation.specs.declared.syntax.Access.{Access}
use Rattle.index_notation.specs.declared.syntax.Statement.{Statement}
use Rattle.expr_terms.specs.Operands.{entries_of}
use Rattle.expr_terms.specs.declared.bound.Bound.{Bound}
use Rattle.expr_terms.specs.declared.bound.Bound.TheVariants.{Exact, AtLeast}
use Rattle.expr_terms.specs.declared.range_fault.RangeFault.{RangeFault}
use Rattle.expr_terms.specs.Ranges.{greatest_of, places_from, places_in, exact_of, least_of}
use Rattle.expr_terms.specs.Ranges.{exact_ranges, first_other, first_above, unless_above, exact_range, bounded_range, settled, range_of}
use Rattle.expr_terms.specs.Ranges.{and_range, ranges_or_first, ranges_of}
use Rattle.operand_packing.specs.Operands.{limit_of, ReadsBounded, AreBounded, ReadsBelow, AreBelowRanges}
use Rattle.operand_packing.proofs.Below.{below_from_each}

-- the list first, so that its elements' type is known
abbrev EachOf : {A : Type 0} → List A → (A → Type 0) → Type 0
EachOf xs P = Each P xs

each_front : {A : Type 0} (P : A → Type 0) (xs ys : List A) → Each P (xs ++ ys) → Each P xs
each_front P [] ys h = tt
each_front P (x ∷ xs) ys h = (h.0, each_front P xs ys h.1)

each_back : {A : Type 0} (P : A → Type 0) (xs ys : List A) → Each P (xs ++ ys) → Each P ys
each_back P [] ys h = h
each_back P (x ∷ xs) ys h = each_back P xs ys h.1

-- where no bound is exact, the greatest is above each
all_least : {A : Type 0} (bound : A → Bound) (range : ℕ) (places : List A) → filter_map (λ p. exact_of (bound p)) places ≡ []
    → greatest_of (map (λ p. least_of (bound p)) places) ≤ range → EachOf places (λ p. limit_of (bound p) ≤ range)
all_least bound range [] none most = tt
all_least bound range (p ∷ places) none most = by (bound p) refl (all_least bound range places)
  where
    by : (b : Bound) → bound p ≡ b → (filter_map (λ p. exact_of (bound p)) places ≡ []
        → greatest_of (map (λ p. least_of (bound p)) places) ≤ range → EachOf places (λ p. limit_of (bound p) ≤ range))
        → EachOf (p ∷ places) (λ p. limit_of (bound p) ≤ range)
    by (Exact n) is rest = absurd (filled n (filter_map (λ p. exact_of (bound p)) places)
        (sym (ap (λ o. cons_option o (filter_map (λ p. exact_of (bound p)) places)) (ap exact_of is)) ∙ none))
      where
        filled : (n : ℕ) (ns : List ℕ) → n ∷ ns ≡ [] → ⊥
        filled n ns e = cc
    by (AtLeast n) is rest =
        let here : least_of (bound p) ≡ n = ap least_of is in
        let limit : limit_of (bound p) ≡ n = ap limit_of is in (
          omega (arith, here, limit),
          rest
              (sym (ap (λ o. cons_option o (filter_map (λ p. exact_of (bound p)) places)) (ap exact_of is)) ∙ none) (omega arith),
        )

-- where each exact bound is the range and no other passes it
all_exact : {A : Type 0} (bound : A → Bound) (range : ℕ) (places : List A)
    → Each (λ n. n ≡ range) (filter_map (λ p. exact_of (bound p)) places) → EachOf places (λ p. least_of (bound p) ≤ range)
    → EachOf places (λ p. limit_of (bound p) ≤ range)
all_exact bound range [] exact least = tt
all_exact bound range (p ∷ places) exact least = by (bound p) refl (all_exact bound range places)
  where
    by : (b : Bound) → bound p ≡ b
        → (Each (λ n. n ≡ range) (filter_map (λ p. exact_of (bound p)) places) → EachOf places (λ p. least_of (bound p) ≤ range)
        → EachOf places (λ p. limit_of (bound p) ≤ range))
        → EachOf (p ∷ places) (λ p. limit_of (bound p) ≤ range)
    by (Exact n) is rest =
        let same = subst (λ o. Each (λ n. n ≡ range) (cons_option o (filter_map (λ p. exact_of (bound p)) places)))
        (ap exact_of is) exact in
        let limit : limit_of (bound p) ≡ n = ap limit_of is in
        let first : n ≡ range = same.0 in
        (omega (arith, limit, first), rest same.1 least.1)
    by (AtLeast n) is rest =
        let others = subst (λ o. Each (λ n. n ≡ range) (cons_option o (filter_map (λ p. exact_of (bound p)) places)))
        (ap exact_of is) exact in
        let here : least_of (bound p) ≡ n = ap least_of is in
        let limit : limit_of (bound p) ≡ n = ap limit_of is in
        let first : least_of (bound p) ≤ range = least.0 in
        (omega (arith, here, limit, first), rest others least.1)

none_other : (n : ℕ) (ms : List ℕ) → first_other n ms ≡ None → Each (λ m. m ≡ n) ms
none_other n [] none = tt
none_other n (m ∷ ms) none = by (nat_eq m n) refl none (none_other n ms)
  where
    by : (b : Bool) → nat_eq m n ≡ b → (if b then first_other n ms else Some m) ≡ None → (first_other n ms ≡ None → Each (λ m. m ≡ n) ms)
        → Each (λ m. m ≡ n) (m ∷ ms)
    by true is rest more = (grind (arith, nat_tests, is), more rest)
    by false is rest more = absurd (some m rest)
      where
        some : (m : ℕ) → Some m ≡ None → ⊥
        some m e = cc

none_above : (range : ℕ) (bounds : ℕ → ℕ → Bound) (places : _) → first_above range bounds places ≡ None
    → EachOf places (λ p. least_of (bounds p.tensor p.mode) ≤ range)
none_above range bounds [] none = tt
none_above range bounds (p ∷ places) none =
    by (nat_lt range (least_of (bounds p.tensor p.mode))) refl none (none_above range bounds places)
  where
    by : (b : Bool) → nat_lt range (least_of (bounds p.tensor p.mode)) ≡ b → (if b then Some p else first_above range bounds places) ≡ None
        → (first_above range bounds places ≡ None → EachOf places (λ p. least_of (bounds p.tensor p.mode) ≤ range))
        → EachOf (p ∷ places) (λ p. least_of (bounds p.tensor p.mode) ≤ range)
    by true is rest more = absurd cc
    by false is rest more = (grind (arith, nat_tests, is), more rest)

-- an exact range that is found
exact_found : (v first range : ℕ) (bounds : ℕ → ℕ → Bound) (other : Option ℕ) (above : _)
    → exact_range v first other (unless_above first bounds above) ≡ Ok range → (other ≡ None) × (above ≡ None) × (first ≡ range)
exact_found v first range bounds (Some other) above is = absurd cc
exact_found v first range bounds None (Some place) is = absurd cc
exact_found v first range bounds None None is = (refl, refl, cc)

bounded_found : (v range : ℕ) (bounds : ℕ → ℕ → Bound) (places : _) → bounded_range v bounds places ≡ Ok range
    → greatest_of (map (λ p. least_of (bounds p.tensor p.mode)) places) ≡ range
bounded_found v range bounds [] is = absurd cc
bounded_found v range bounds (p ∷ places) is = cc

-- the range of a variable is above the bounds of all its places
settled_above : (v range : ℕ) (given : Option ℕ) (bounds : ℕ → ℕ → Bound) (places : _) (exact : List ℕ)
    → exact_ranges given bounds places ≡ exact → settled v exact bounds places ≡ Ok range
    → EachOf places (λ p. limit_of (bounds p.tensor p.mode) ≤ range)
settled_above v range given bounds places [] none is =
    let greatest = bounded_found v range bounds places is in
    all_least (λ p. bounds p.tensor p.mode) range places
    (back (option_to_list given) (filter_map (λ p. exact_of (bounds p.tensor p.mode)) places) none)
    (omega (arith, greatest))
  where
    back : (xs ys : List ℕ) → xs ++ ys ≡ [] → ys ≡ []
    back [] ys e = e
    back (x ∷ xs) ys e = cc
settled_above v range given bounds places (first ∷ others) exact is =
    let found = exact_found v first range bounds (first_other first others) (first_above first bounds places) is in
    let same : Each (λ m. m ≡ first) (first ∷ others) = (refl, none_other first others found.0) in
    subst (λ r. EachOf places (λ p. limit_of (bounds p.tensor p.mode) ≤ r)) found.2
    (all_exact (λ p. bounds p.tensor p.mode) first places
    (each_back (λ m. m ≡ first) (option_to_list given) (filter_map (λ p. exact_of (bounds p.tensor p.mode)) places)
    (subst (Each (λ m. m ≡ first)) (sym exact) same))
    (none_above first bounds places found.1))

-- each variable has its range
found_each : (range : ℕ → Result ℕ RangeFault) (n count : ℕ) (ranges : List ℕ) → ranges_or_first range (numbers_from n count) ≡ Ok ranges
    → (length ranges ≡ count) × ((w : ℕ) → w < count → range (n + w) ≡ Ok (slice_index ranges w))
found_each range n zero ranges found =
    let none : [] ≡ ranges = cc in
    (ap length (sym none), λ w h. absurd (omega arith))
found_each range n (suc count) ranges found =
    by (range n) (ranges_or_first range (numbers_from (n + 1) count)) refl refl found (found_each range (n + 1) count)
  where
    by : (a : Result ℕ RangeFault) (b : Result (List ℕ) RangeFault) → range n ≡ a → ranges_or_first range (numbers_from (n + 1) count) ≡ b
        → and_range a b ≡ Ok ranges
        → ((others : List ℕ) → ranges_or_first range (numbers_from (n + 1) count) ≡ Ok others
        → (length others ≡ count) × ((w : ℕ) → w < count → range ((n + 1) + w) ≡ Ok (slice_index others w)))
        → (length ranges ≡ suc count) × ((w : ℕ) → w < suc count → range (n + w) ≡ Ok (slice_index ranges w))
    by (Err fault) b first others is rest = absurd cc
    by (Ok x) (Err fault) first others is rest = absurd cc
    by (Ok x) (Ok xs) first others is rest =
        let all : x ∷ xs ≡ ranges = cc in
        let later = rest xs others in
        subst (λ rs. (length rs ≡ suc count) × ((w : ℕ) → w < suc count → range (n + w) ≡ Ok (slice_index rs w))) all
        (ap suc later.0, at later.1)
      where
        at : ((w : ℕ) → w < count → range ((n + 1) + w) ≡ Ok (slice_index xs w)) → (w : ℕ) → w < suc count
            → range (n + w) ≡ Ok (slice_index (x ∷ xs) w)
        at later zero h = let here : n + 0 ≡ n = omega arith in ap range here ∙ first
        at later (suc w) h = let next : n + suc w ≡ (n + 1) + w = omega arith in ap range next ∙ later w (omega arith)

-- an access has a place for the variable at each of its modes
there_from : (P : ℕ → ℕ → Type 0) (tensor from : ℕ) (vars : List ℕ) (mode : ℕ) → mode < length vars
    → EachOf (places_from tensor from vars (slice_index vars mode)) (λ p. P p.tensor p.mode) → P tensor (from + mode)
there_from P tensor from [] mode h each = absurd (omega arith)
there_from P tensor from (w ∷ vars) zero h each =
    let here : from + 0 ≡ from = omega arith in
    subst (P tensor) (sym here) (first (nat_eq w w) (eq-eqb w w refl) each)
  where
    first : (b : Bool) → b ≡ true
        → EachOf (if b then (record { tensor = tensor; mode = from }
        ∷ places_from tensor (from + 1) vars w) else places_from tensor (from + 1) vars w) (λ p. P p.tensor p.mode)
        → P tensor from
    first true e each = each.0
    first false e each = absurd cc
there_from P tensor from (w ∷ vars) (suc mode) h each =
    let next : (from + 1) + mode ≡ from + suc mode = omega arith in
    subst (P tensor) next (there_from P tensor (from + 1) vars mode (omega arith) (later (nat_eq w (slice_index vars mode)) each))
  where
    later : (b : Bool)
        → EachOf (if b then (record { tensor = tensor; mode = from }
        ∷ places_from tensor (from + 1) vars (slice_index vars mode)) else places_from tensor (from + 1) vars (slice_index vars mode))
        (λ p. P p.tensor p.mode)
        → EachOf (places_from tensor (from + 1) vars (slice_index vars mode)) (λ p. P p.tensor p.mode)
    later true each = each.1
    later false each = each

there_in : (P : ℕ → ℕ → Type 0) (accesses : List Access) (n : ℕ) (access : Access) (mode : ℕ) → slice_get accesses n ≡ Some access
    → mode < length access.vars → EachOf (places_in accesses (slice_index access.vars mode)) (λ p. P p.tensor p.mode) → P access.tensor mode
there_in P [] n access mode is h each = absurd cc
there_in P (first ∷ accesses) zero access mode is h each =
    let same : first ≡ access = cc in
    let here : 0 + mode ≡ mode = omega arith in
    let front = each_front (λ p. P p.tensor p.mode) (places_from first.tensor 0 first.vars (slice_index access.vars mode))
    (places_in accesses (slice_index access.vars mode)) each in
    subst (P access.tensor) here (there_from P access.tensor 0 access.vars mode h
    (subst (λ (a : Access). EachOf (places_from a.tensor 0 a.vars (slice_index access.vars mode)) (λ p. P p.tensor p.mode)) same front))
there_in P (first ∷ accesses) (suc n) access mode is h each =
    there_in P accesses n access mode is h
    (each_back (λ p. P p.tensor p.mode) (places_from first.tensor 0 first.vars (slice_index access.vars mode))
    (places_in accesses (slice_index access.vars mode)) each)

var_below : (count : ℕ) (vars : List ℕ) (mode : ℕ) → Each (λ v. v < count) vars → mode < length vars → slice_index vars mode < count
var_below count [] mode each h = absurd (omega arith)
var_below count (v ∷ vars) zero each h = each.0
var_below count (v ∷ vars) (suc mode) each h = var_below count vars mode each.1 (omega arith)

-- there is a range for each variable
pub ranges_long : (s : Statement) (given : ℕ → Option ℕ) (bounds : ℕ → ℕ → Bound) (ranges : List ℕ)
    → ranges_of s given bounds ≡ Ok ranges → length ranges ≡ length s.vars
ranges_long s given bounds ranges found = (found_each (range_of s given bounds) 0 (length s.vars) ranges found).0

-- coordinates that keep to the bounds are below the ranges that are found
pub bounded_below : (s : Statement) → IsNumberedWithSums s
    → (operands : List Entries) (given : ℕ → Option ℕ) (bounds : ℕ → ℕ → Bound) (ranges : List ℕ)
    → ranges_of s given bounds ≡ Ok ranges → AreBounded s operands bounds → AreBelowRanges s operands (slice_index ranges)
bounded_below s numbered operands given bounds ranges found are =
    each_from (ReadsBelow operands (slice_index ranges)) s.accesses (λ n access is k d h.
    let bounded = each_get (ReadsBounded operands bounds) s.accesses n access are is k d h in
    let coords : List ℕ = (slice_index_or (entries_of operands access.tensor) k d).coords in
    below_from_each (slice_index ranges) access.vars coords bounded.long (λ mode m.
    let v : ℕ = slice_index access.vars mode in
    let within : v < length s.vars = var_below (length s.vars) access.vars mode
    (each_get (IsAccess (length s.tensors) (length s.vars)) s.accesses n access numbered.right is).vars_stand m in
    let here : 0 + v ≡ v = omega arith in
    let range = ap (range_of s given bounds) (sym here)
    ∙ (found_each (range_of s given bounds) 0 (length s.vars) ranges found).1 v within in
    let above : limit_of (bounds access.tensor mode) ≤ slice_index ranges v =
    there_in (λ tensor mode. limit_of (bounds tensor mode) ≤ slice_index ranges v) s.accesses n access mode is m
    (settled_above v (slice_index ranges v) (given v) bounds (places_in s.accesses v)
    (exact_ranges (given v) bounds (places_in s.accesses v)) refl range) in
    let below : slice_index coords mode < limit_of (bounds access.tensor mode) = bounded.each mode m in
    omega arith))

-- exact bounds are within what all bounds are within, and so is the greatest of the others
exact_within : {A : Type 0} (bound : A → Bound) (most : ℕ) → ((p : A) → limit_of (bound p) ≤ most) → (places : List A)
    → Each (λ n. n ≤ most) (filter_map (λ p. exact_of (bound p)) places)
exact_within bound most within [] = tt
exact_within bound most within (p ∷ places) = by (bound p) (within p) (exact_within bound most within places)
  where
    by : (b : Bound) → limit_of b ≤ most → Each (λ n. n ≤ most) (filter_map (λ p. exact_of (bound p)) places)
        → Each (λ n. n ≤ most) (cons_option (exact_of b) (filter_map (λ p. exact_of (bound p)) places))
    by (Exact n) small rest = (small, rest)
    by (AtLeast n) small rest = rest

least_within : (bound : Bound) → least_of bound ≤ limit_of bound
least_within (Exact n) = omega arith
least_within (AtLeast n) = omega arith

greatest_within : {A : Type 0} (bound : A → Bound) (most : ℕ) → ((p : A) → limit_of (bound p) ≤ most) → (places : List A)
    → greatest_of (map (λ p. least_of (bound p)) places) ≤ most
greatest_within bound most within [] = omega arith
greatest_within bound most within (p ∷ places) =
    let here = within p in
    let least = least_within (bound p) in
    let rest = greatest_within bound most within places in
    omega arith

given_within : (most : ℕ) (given : Option ℕ) → ((range : ℕ) → given ≡ Some range → range ≤ most)
    → Each (λ n. n ≤ most) (option_to_list given)
given_within most None within = tt
given_within most (Some range) within = (within range refl, tt)

settled_within : (v range most : ℕ) (given : Option ℕ) (bounds : ℕ → ℕ → Bound) (places : _) (exact : List ℕ)
    → exact_ranges given bounds places ≡ exact → ((word : ℕ) → given ≡ Some word → word ≤ most)
    → ((tensor mode : ℕ) → limit_of (bounds tensor mode) ≤ most) → settled v exact bounds places ≡ Ok range → range ≤ most
settled_within v range most given bounds places [] none words within is =
    let greatest = bounded_found v range bounds places is in
    let small = greatest_within (λ p. bounds p.tensor p.mode) most (λ p. within p.tensor p.mode) places in
    omega arith
settled_within v range most given bounds places (first ∷ others) exact words within is =
    let found = exact_found v first range bounds (first_other first others) (first_above first bounds places) is in
    let all = each_append (λ n. n ≤ most) (option_to_list given) (filter_map (λ p. exact_of (bounds p.tensor p.mode)) places)
    (given_within most given words) (exact_within (λ p. bounds p.tensor p.mode) most (λ p. within p.tensor p.mode) places) in
    subst (λ r. r ≤ most) found.2 (subst (Each (λ n. n ≤ most)) exact all).0

-- where words and bounds are within a limit, so are the ranges that are found
pub ranges_within : (s : Statement) (given : ℕ → Option ℕ) (bounds : ℕ → ℕ → Bound) (ranges : List ℕ) (most : ℕ)
    → ranges_of s given bounds ≡ Ok ranges → ((v word : ℕ) → given v ≡ Some word → word ≤ most)
    → ((tensor mode : ℕ) → limit_of (bounds tensor mode) ≤ most) → All (λ range. range ≤ most) ranges
ranges_within s given bounds ranges most found words within = λ v d h.
    let each = found_each (range_of s given bounds) 0 (length s.vars) ranges found in
    let here : 0 + v ≡ v = omega arith in
    let stands : v < length s.vars = omega (arith, each.0) in
    let range = ap (range_of s given bounds) (sym here) ∙ each.1 v stands in
    subst (λ r. r ≤ most) (sym (get_or_default ranges v d 0 h))
    (settled_within v (slice_index ranges v) most (given v) bounds (places_in s.accesses v)
    (exact_ranges (given v) bounds (places_in s.accesses v)) refl (words v) within range)
