-- The ranges of a planned statement are those of the given one.
use Rattle.std.specs.Prelude.{◌≡◌, ℕ, suc, ◌+◌, nat_eq, nat_lt, Bool, true, false, if◌then◌else◌, List, [], ◌∷◌, ◌++◌, map}
use Rattle.std.specs.Prelude.{length, Option, None, Some, Result, Ok, Err, filter_map, option_to_list, slice_get, refl}
use Rattle.std.specs.List.{cons_option}
use Rattle.std.proofs.Common.{◌∙◌, ap, arith}
use Rattle.std.proofs.lemmas.List.{map-append}
use Rattle.format_spec.specs.declared.format.FormatLevel.{FormatLevel}
use Rattle.index_notation.specs.Statement.{numbers_from}
use Rattle.index_notation.specs.declared.syntax.Access.{Access}
use Rattle.index_notation.specs.declared.syntax.Statement.{Statement}
use Rattle.expr_terms.specs.declared.bound.Bound.{Bound}
use Rattle.expr_terms.specs.declared.bound.Place.{Place}
use Rattle.expr_terms.specs.declared.range_fault.RangeFault.{RangeFault}
use Rattle.expr_terms.specs.Ranges.{and_range, exact_of, exact_range, exact_ranges, first_above}
use Rattle.expr_terms.specs.Ranges.{first_other, greatest_of, least_of, places_from, places_in, range_of, ranges_of, ranges_or_first}
use Rattle.expr_terms.specs.Ranges.{settled, unless_above}
use Rattle.mode_planner.specs.Planned.{IsPlanned, origin_of}
use Rattle.mode_planner.specs.declared.planned.Planned.{Planned}

-- ---- places of a variable
abbrev at_origin : List ℕ → Place → Place
at_origin origins place = record { tensor = origin_of origins place.tensor; mode = place.mode }

places_moved : (origins : List ℕ) (tensor mode : ℕ) (vars : List ℕ) (v : ℕ)
    → map (at_origin origins) (places_from tensor mode vars v) ≡ places_from (origin_of origins tensor) mode vars v
places_moved origins tensor mode [] v = refl
places_moved origins tensor mode (w ∷ ws) v = by (nat_eq w v) (places_moved origins tensor (mode + 1) ws v)
  where
    by : (b : Bool) → map (at_origin origins) (places_from tensor (mode + 1) ws v) ≡ places_from (origin_of origins tensor) (mode + 1) ws v
        → map (at_origin origins) (if b then record { tensor = tensor; mode = mode } ∷ places_from tensor (mode + 1) ws v
        else places_from tensor (mode + 1) ws v)
        ≡ (if b then record { tensor = origin_of origins tensor; mode = mode } ∷ places_from (origin_of origins tensor) (mode + 1) ws v
        else places_from (origin_of origins tensor) (mode + 1) ws v)
    by true rest = ap (λ (places : List Place). record { tensor = origin_of origins tensor; mode = mode } ∷ places) rest
    by false rest = rest

-- an access that stands for another
abbrev Follows : List ℕ → Access → Access → Type 0
Follows origins old access = (access.vars ≡ old.vars) × (origin_of origins access.tensor ≡ old.tensor)

all_moved : (origins : List ℕ) (planned given : List Access) (v : ℕ) → length planned ≡ length given
    → ((k : ℕ) (old access : Access) → slice_get given k ≡ Some old → slice_get planned k ≡ Some access → Follows origins old access)
    → map (at_origin origins) (places_in planned v) ≡ places_in given v
all_moved origins [] [] v same follow = refl
all_moved origins [] (old ∷ given) v same follow = absurd (omega (arith, same))
all_moved origins (access ∷ planned) [] v same follow = absurd (omega (arith, same))
all_moved origins (access ∷ planned) (old ∷ given) v same follow =
    let here : Follows origins old access = follow 0 old access refl refl in
    let rest = all_moved origins planned given v (omega (arith, same)) (λ k o a is at. follow (suc k) o a is at) in
    map-append (at_origin origins) (places_from access.tensor 0 access.vars v) (places_in planned v)
    ∙ ap (λ (places : List Place). places ++ map (at_origin origins) (places_in planned v))
    (places_moved origins access.tensor 0 access.vars v
    ∙ ap (λ tensor. places_from tensor 0 access.vars v) here.1 ∙ ap (λ vars. places_from old.tensor 0 vars v) here.0)
    ∙ ap (λ (places : List Place). places_from old.tensor 0 old.vars v ++ places) rest

-- ---- the range at places
module _ (origins : List ℕ) (bounds : ℕ → ℕ → Bound) where
  abbrev stored_bounds : ℕ → ℕ → Bound
  stored_bounds tensor mode = bounds (origin_of origins tensor) mode

  exact_same : (places : List Place) → filter_map (λ (p : Place). exact_of (stored_bounds p.tensor p.mode)) places
      ≡ filter_map (λ (p : Place). exact_of (bounds p.tensor p.mode)) (map (at_origin origins) places)
  exact_same [] = refl
  exact_same (p ∷ places) = ap (cons_option (exact_of (stored_bounds p.tensor p.mode))) (exact_same places)

  least_same : (places : List Place) → map (λ (p : Place). least_of (stored_bounds p.tensor p.mode)) places
      ≡ map (λ (p : Place). least_of (bounds p.tensor p.mode)) (map (at_origin origins) places)
  least_same [] = refl
  least_same (p ∷ places) = ap (λ ns. least_of (stored_bounds p.tensor p.mode) ∷ ns) (least_same places)

  refuses : (r : ℕ) (fault : RangeFault) → Err fault ≡ Ok r → ⊥
  refuses r fault h = cc

  within : (range r : ℕ) (places : List Place) → unless_above range bounds
      (first_above range bounds (map (at_origin origins) places)) ≡ Ok r
      → unless_above range stored_bounds (first_above range stored_bounds places) ≡ Ok r
  within range r [] h = h
  within range r (p ∷ places) h = by (nat_lt range (least_of (stored_bounds p.tensor p.mode))) h (within range r places)
    where
      by : (b : Bool)
          → unless_above range bounds (if b then Some (at_origin origins p) else first_above range bounds (map (at_origin origins) places))
          ≡ Ok r
          → (unless_above range bounds (first_above range bounds (map (at_origin origins) places)) ≡ Ok r
          → unless_above range stored_bounds (first_above range stored_bounds places) ≡ Ok r)
          → unless_above range stored_bounds (if b then Some p else first_above range stored_bounds places) ≡ Ok r
      by true h rest = absurd (refuses r _ h)
      by false h rest = rest h

  settled_same : (v r : ℕ) (exact : List ℕ) (places : List Place) → settled v exact bounds (map (at_origin origins) places) ≡ Ok r
      → settled v exact stored_bounds places ≡ Ok r
  settled_same v r [] [] h = h
  settled_same v r [] (p ∷ places) h = ap (λ ns. Ok (greatest_of ns)) (least_same (p ∷ places)) ∙ h
  settled_same v r (first ∷ others) places h = by (first_other first others) h
    where
      by : (o : Option ℕ)
          → exact_range v first o (unless_above first bounds (first_above first bounds (map (at_origin origins) places))) ≡ Ok r
          → exact_range v first o (unless_above first stored_bounds (first_above first stored_bounds places)) ≡ Ok r
      by None h = within first r places h
      by (Some other) h = h

-- ---- all ranges
ranges_same : (range stored : ℕ → Result ℕ RangeFault) (vs ranges : List ℕ) → ((v r : ℕ) → range v ≡ Ok r → stored v ≡ Ok r)
    → ranges_or_first range vs ≡ Ok ranges → ranges_or_first stored vs ≡ Ok ranges
ranges_same range stored [] ranges each h = h
ranges_same range stored (v ∷ vs) ranges each h =
    by (range v) refl (ranges_or_first range vs) refl (λ found is. ranges_same range stored vs found each is) h
  where
    by : (first : Result ℕ RangeFault) → range v ≡ first → (others : Result (List ℕ) RangeFault) → ranges_or_first range vs ≡ others
        → ((found : List ℕ) → ranges_or_first range vs ≡ Ok found → ranges_or_first stored vs ≡ Ok found)
        → and_range first others ≡ Ok ranges → and_range (stored v) (ranges_or_first stored vs) ≡ Ok ranges
    by (Err fault) is others are rest h = absurd cc
    by (Ok r) is (Err fault) are rest h = absurd cc
    by (Ok r) is (Ok found) are rest h =
        ap (λ first. and_range first (ranges_or_first stored vs)) (each v r is)
        ∙ ap (and_range (Ok r)) (rest found are) ∙ h

pub ranges_kept : (s : Statement) (formats : List (List FormatLevel)) (plan : Planned) (given : ℕ → Option ℕ) (bounds : ℕ → ℕ → Bound)
    (ranges : List ℕ) → IsPlanned s formats plan → ranges_of s given bounds ≡ Ok ranges
    → ranges_of plan.statement given (λ tensor. bounds (origin_of plan.origins tensor)) ≡ Ok ranges
ranges_kept s formats plan given bounds ranges p h =
    ap (λ names. ranges_or_first (range_of plan.statement given (λ tensor. bounds (origin_of plan.origins tensor)))
    (numbers_from 0 (length names))) p.vars
    ∙ ranges_same (range_of s given bounds) (range_of plan.statement given (λ tensor. bounds (origin_of plan.origins tensor)))
    (numbers_from 0 (length s.vars)) ranges one h
  where
    one : (v r : ℕ) → range_of s given bounds v ≡ Ok r
        → range_of plan.statement given (λ tensor. bounds (origin_of plan.origins tensor)) v ≡ Ok r
    one v r is =
        let places = places_in plan.statement.accesses v in
        let moved : map (at_origin plan.origins) places ≡ places_in s.accesses v =
        all_moved plan.origins plan.statement.accesses s.accesses v p.many (λ k old access here there.
        let planned = p.accesses k old access here there in (planned.vars, planned.stored.origin_is)) in
        let exact : exact_ranges (given v) (stored_bounds plan.origins bounds) places
        ≡ exact_ranges (given v) bounds (map (at_origin plan.origins) places) =
        ap (λ ns. option_to_list (given v) ++ ns) (exact_same plan.origins bounds places) in
        settled_same plan.origins bounds v r (exact_ranges (given v) (stored_bounds plan.origins bounds) places) places
        (ap (λ ns. settled v ns bounds (map (at_origin plan.origins) places)) exact
        ∙ ap (λ ps. settled v (exact_ranges (given v) bounds ps) bounds ps) moved ∙ is)
