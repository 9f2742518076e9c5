-- The arrays that a kernel works on: which of them are one, which it may write, how long they may grow.
use Rattle.std.specs.Prelude.{ℕ, ◌+◌, ◌-◌, ◌^◌, min, Bool, true, false, ◌==◌, ◌&&◌, nat_le, Option, Some, None}
use Rattle.numbers.specs.Arithmetic.{Arithmetic}
use Rattle.numbers.specs.Ring.{word_sum}
use Rattle.limits.specs.Limits.{greatest_position_count, greatest_workspace_pairs}
use Rattle.kernel_code.specs.declared.syntax.Arr.{Arr}
use Rattle.kernel_code.specs.declared.syntax.Arr.TheVariants.{Range, Values, Dimension, Ends, Coordinates, Width, Key, Sums}
use Rattle.kernel_code.specs.declared.syntax.Arr.TheVariants.{ListCoordinates, ListPositions}

-- whether two names are one
abbrev pub same_arr : Arr → Arr → Bool
same_arr Range Range = true
same_arr (Values n) (Values m) = n == m
same_arr (Dimension n k) (Dimension m l) = (n == m) && (k == l)
same_arr (Ends n k) (Ends m l) = (n == m) && (k == l)
same_arr (Coordinates n k) (Coordinates m l) = (n == m) && (k == l)
same_arr (Width n k) (Width m l) = (n == m) && (k == l)
same_arr (Key n k) (Key m l) = (n == m) && (k == l)
same_arr (Sums n) (Sums m) = n == m
same_arr (ListCoordinates n) (ListCoordinates m) = n == m
same_arr (ListPositions n) (ListPositions m) = n == m
same_arr _ _ = false

-- a kernel writes arrays of the result, of workspaces and of scratch lists
abbrev pub may_write : Arr → Bool
may_write Range = false
may_write (Values n) = n == 0
may_write (Dimension n k) = false
may_write (Ends n k) = n == 0
may_write (Coordinates n k) = n == 0
may_write (Width n k) = n == 0
may_write (Key n k) = true
may_write (Sums n) = true
may_write (ListCoordinates n) = true
may_write (ListPositions n) = true

-- whether an array belongs to a workspace or a scratch list
abbrev pub is_scratch : Arr → Bool
is_scratch (Key w key) = true
is_scratch (Sums w) = true
is_scratch (ListCoordinates g) = true
is_scratch (ListPositions g) = true
is_scratch Range = false
is_scratch (Values n) = false
is_scratch (Dimension n l) = false
is_scratch (Ends n l) = false
is_scratch (Coordinates n l) = false
is_scratch (Width n l) = false

-- whether an array may be cut, where those of the result may be or may not: those of workspaces and scratch lists always
abbrev pub may_cut : Bool → Arr → Bool
may_cut true a = may_write a
may_cut false a = is_scratch a

-- the greatest length of an array that may be written, if there is one: a level has so many positions, and one segment end more
abbrev pub greatest_length : Arr → Option ℕ
greatest_length (Values n) = Some greatest_position_count
greatest_length (Coordinates n k) = Some greatest_position_count
greatest_length (Ends n k) = Some (greatest_position_count + 1)
greatest_length (Key n k) = Some greatest_workspace_pairs
greatest_length (Sums n) = Some greatest_workspace_pairs
greatest_length Range = None
greatest_length (Dimension n k) = None
greatest_length (Width n k) = None
greatest_length (ListCoordinates n) = None
greatest_length (ListPositions n) = None

abbrev pub within_limit : Option ℕ → ℕ → Bool
within_limit None n = true
within_limit (Some limit) n = nat_le n limit

-- whether an array may have so many words
abbrev pub may_have : Arr → ℕ → Bool
may_have a n = within_limit (greatest_length a) n

-- a statement's number as a word: the last word where it would be more
unfoldable pub word_count : ℕ → ℕ
word_count n = min n (2 ^ 64 - 1)

-- the count that is told of an array of so many words: of positions, which are one fewer than the segment ends
abbrev pub told_count : Arr → ℕ → ℕ
told_count (Ends n l) length = length - 1
told_count _ length = length

-- whether an array holds values, which are added by the record of arithmetic; other words are added as words
abbrev pub holds_values : Arr → Bool
holds_values (Values n) = true
holds_values (Sums n) = true
holds_values Range = false
holds_values (Dimension n k) = false
holds_values (Ends n k) = false
holds_values (Coordinates n k) = false
holds_values (Width n k) = false
holds_values (Key n k) = false
holds_values (ListCoordinates n) = false
holds_values (ListPositions n) = false

abbrev pub sum_by_kind : Bool → Arithmetic → ℕ → ℕ → ℕ
sum_by_kind true arithmetic x y = arithmetic.plus x y
sum_by_kind false arithmetic x y = word_sum x y

-- the sum of two words of an array
abbrev pub sum_in : Arithmetic → Arr → ℕ → ℕ → ℕ
sum_in arithmetic a x y = sum_by_kind (holds_values a) arithmetic x y
