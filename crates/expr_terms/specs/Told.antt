-- What words and operands tell of ranges, as they are handed in, and what a call for ranges may be refused with.
use Rattle.std.specs.Prelude.{◌≡◌, ℕ, zero, suc, List, [], Option, None, Some, Result, Err, Vec, slice_get}
use Rattle.std.specs.declared.alloc.Global.{Global}
use Rattle.expr_terms.specs.Ranges.{Bound, AtLeast, RangeFault}
use Rattle.expr_terms.specs.declared.range_fault.RangeFault.TheVariants.{Memory}

abbrev pub word_or_none : Option (Option ℕ) → Option ℕ
word_or_none None = None
word_or_none (Some word) = word

-- the range that a word gives a variable, if one does
abbrev pub given_at : List (Option ℕ) → ℕ → Option ℕ
given_at given v = word_or_none (slice_get given v)

abbrev pub modes_or_none : Option (Vec Bound Global) → List Bound
modes_or_none None = []
modes_or_none (Some modes) = modes.items

-- the bounds of tensor 1, of tensor 2 and so on stand in a row; tensor 0, the result, has none
abbrev pub modes_of : List (Vec Bound Global) → ℕ → List Bound
modes_of bounds zero = []
modes_of bounds (suc n) = modes_or_none (slice_get bounds n)

abbrev pub bound_or_none : Option Bound → Bound
bound_or_none None = AtLeast 0
bound_or_none (Some bound) = bound

-- what a mode of a tensor tells: where nothing is told, it has no coordinate
abbrev pub bound_at : List (Vec Bound Global) → ℕ → ℕ → Bound
bound_at bounds tensor mode = bound_or_none (slice_get (modes_of bounds tensor) mode)

-- what a call may refuse with where this is the defined answer: its refusal, or want of memory
abbrev pub MayRefuseRanges : {A : Type 0} → Result A RangeFault → RangeFault → Type 0
MayRefuseRanges answer (Memory error) = Unit {0}
MayRefuseRanges answer fault = answer ≡ Err fault
