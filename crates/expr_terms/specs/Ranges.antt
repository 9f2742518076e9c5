-- The ranges of a statement's variables, and the first refusal.
use Rattle.std.specs.Prelude.{ℕ, ◌+◌, max, nat_eq, nat_lt, if◌then◌else◌, List, [], ◌∷◌, ◌++◌, map, length, Option, None, Some}
use Rattle.std.specs.Prelude.{option_to_list, Result, Ok, Err, slice_get, slice_index, filter_map}
use Rattle.tensor_map.specs.Entries.{Entry}
use Rattle.index_notation.specs.Statement.{numbers_from}
use Rattle.index_notation.specs.declared.syntax.Access.{Access}
use Rattle.index_notation.specs.declared.syntax.Statement.{Statement}
pub use Rattle.expr_terms.specs.declared.bound.Bound.{Bound}
pub use Rattle.expr_terms.specs.declared.bound.Bound.TheVariants.{Exact, AtLeast}
pub use Rattle.expr_terms.specs.declared.bound.Place.{Place}
pub use Rattle.expr_terms.specs.declared.range_fault.RangeFault.{RangeFault}
pub use Rattle.expr_terms.specs.declared.range_fault.RangeFault.TheVariants.{NoRange, RangeConflict, OutOfRange}

-- the greatest of some numbers, 0 where there is none
abbrev pub greatest_of : List ℕ → ℕ
greatest_of [] = 0
greatest_of (n ∷ ns) = max n (greatest_of ns)

-- the modes from one on at which a variable stands, among these variables of a tensor
abbrev pub places_from : ℕ → ℕ → List ℕ → ℕ → List Place
places_from tensor mode [] v = []
places_from tensor mode (w ∷ ws) v =
    if nat_eq w v
    then (record { tensor = tensor; mode = mode } ∷ places_from tensor (mode + 1) ws v)
    else places_from tensor (mode + 1) ws v

-- the places of a variable in some accesses, in text order
abbrev pub places_in : List Access → ℕ → List Place
places_in [] v = []
places_in (access ∷ accesses) v = places_from access.tensor 0 access.vars v ++ places_in accesses v

-- the ranges of the variables that stand at a mode of a tensor in some accesses
abbrev pub ranges_at : (ℕ → ℕ) → ℕ → ℕ → List Access → List ℕ
ranges_at ranges tensor mode [] = []
ranges_at ranges tensor mode (access ∷ accesses) =
    if nat_eq access.tensor tensor
    then (map ranges (option_to_list (slice_get access.vars mode)) ++ ranges_at ranges tensor mode accesses)
    else ranges_at ranges tensor mode accesses

-- the size of a tensor's mode: the greatest range of the variables that stand there in any access
abbrev pub mode_size : Statement → (ℕ → ℕ) → ℕ → ℕ → ℕ
mode_size s ranges tensor mode = greatest_of (ranges_at ranges tensor mode (s.left ∷ s.accesses))

-- how far the coordinates of a mode reach: one more than the greatest, and 0 where there is no entry
abbrev pub reach : List Entry → ℕ → ℕ
reach entries mode = greatest_of (map (λ entry. slice_index entry.coords mode + 1) entries)

-- where each range is only bounded, by the entries: the greatest reach over the variable's places on the right
abbrev pub narrow_ranges : Statement → (ℕ → List Entry) → ℕ → ℕ
narrow_ranges s entries v = greatest_of (map (λ place. reach (entries place.tensor) place.mode) (places_in s.accesses v))

-- what each place gives for the range of its variable
abbrev pub exact_of : Bound → Option ℕ
exact_of (Exact n) = Some n
exact_of (AtLeast n) = None

abbrev pub least_of : Bound → ℕ
least_of (Exact n) = 0
least_of (AtLeast n) = n

-- the exact ranges of a variable: that of its word, and then those of its places
abbrev pub exact_ranges : Option ℕ → (ℕ → ℕ → Bound) → List Place → List ℕ
exact_ranges given bounds places = option_to_list given ++ filter_map (λ place. exact_of (bounds place.tensor place.mode)) places

-- the first of these numbers that differs from one
abbrev pub first_other : ℕ → List ℕ → Option ℕ
first_other n [] = None
first_other n (m ∷ ms) = if nat_eq m n then first_other n ms else Some m

-- the first of these places whose bound is above a range
abbrev pub first_above : ℕ → (ℕ → ℕ → Bound) → List Place → Option Place
first_above range bounds [] = None
first_above range bounds (place ∷ places) =
    if nat_lt range (least_of (bounds place.tensor place.mode)) then Some place else first_above range bounds places

-- a range unless a bound is above it
abbrev pub unless_above : ℕ → (ℕ → ℕ → Bound) → Option Place → Result ℕ RangeFault
unless_above range bounds None = Ok range
unless_above range bounds (Some place) = Err (OutOfRange place.tensor (least_of (bounds place.tensor place.mode)) range)

-- the first exact range, unless another differs from it or a bound is above it
abbrev pub exact_range : ℕ → ℕ → Option ℕ → Result ℕ RangeFault → Result ℕ RangeFault
exact_range v first None within = within
exact_range v first (Some other) within = Err (RangeConflict v first other)

-- without an exact range the greatest bound is the range, unless there is no place
abbrev pub bounded_range : ℕ → (ℕ → ℕ → Bound) → List Place → Result ℕ RangeFault
bounded_range v bounds [] = Err (NoRange v)
bounded_range v bounds (place ∷ places) = Ok (greatest_of (map (λ p. least_of (bounds p.tensor p.mode)) (place ∷ places)))

-- the range of a variable, by its exact ranges and its places
abbrev pub settled : ℕ → List ℕ → (ℕ → ℕ → Bound) → List Place → Result ℕ RangeFault
settled v [] bounds places = bounded_range v bounds places
settled v (first ∷ others) bounds places =
    exact_range v first (first_other first others) (unless_above first bounds (first_above first bounds places))

-- the range of a variable, or its refusal
abbrev pub range_of : Statement → (ℕ → Option ℕ) → (ℕ → ℕ → Bound) → ℕ → Result ℕ RangeFault
range_of s given bounds v = settled v (exact_ranges (given v) bounds (places_in s.accesses v)) bounds (places_in s.accesses v)

-- the ranges of these variables, or the first refusal
abbrev pub and_range : Result ℕ RangeFault → Result (List ℕ) RangeFault → Result (List ℕ) RangeFault
and_range (Err fault) others = Err fault
and_range (Ok range) (Err fault) = Err fault
and_range (Ok range) (Ok ranges) = Ok (range ∷ ranges)

abbrev pub ranges_or_first : (ℕ → Result ℕ RangeFault) → List ℕ → Result (List ℕ) RangeFault
ranges_or_first range [] = Ok []
ranges_or_first range (v ∷ vs) = and_range (range v) (ranges_or_first range vs)

-- the ranges of all variables, or the first refusal: by the words' ranges, and by what each mode of each tensor gives
abbrev pub ranges_of : Statement → (ℕ → Option ℕ) → (ℕ → ℕ → Bound) → Result (List ℕ) RangeFault
ranges_of s given bounds = ranges_or_first (range_of s given bounds) (numbers_from 0 (length s.vars))
