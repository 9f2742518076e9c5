-- The operands of a statement: the entries of tensor 1, of tensor 2 and so on, in a row. Tensor 0, the result, has none.
use Rattle.std.specs.Prelude.{ℕ, zero, suc, List, [], Option, None, Some, slice_get}
use Rattle.numbers.specs.Arithmetic.{Arithmetic}
use Rattle.tensor_map.specs.Entries.{Entry, Entries, value_at}

abbrev pub list_or_none : Option Entries → List Entry
list_or_none None = []
list_or_none (Some entries) = entries.list

-- the entries of a tensor
abbrev pub entries_of : List Entries → ℕ → List Entry
entries_of operands zero = []
entries_of operands (suc n) = list_or_none (slice_get operands n)

-- its value at a coordinate list
abbrev pub operand_values : Arithmetic → List Entries → ℕ → List ℕ → ℕ
operand_values a operands tensor coords = value_at a (entries_of operands tensor) coords
