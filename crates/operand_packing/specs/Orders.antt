-- The orders of a statement's operands, as their files are read.
use Rattle.std.specs.Prelude.{ℕ, ◌-◌, List, length, map}
use Rattle.std.specs.List.{range_with_len}
use Rattle.index_notation.specs.declared.syntax.Statement.{Statement}
use Rattle.bindings.specs.Bindings.{order_of}

-- those of tensor 1, tensor 2 and so on
abbrev pub operand_orders : Statement → List ℕ
operand_orders s = map (order_of s) (range_with_len 1 (length s.tensors - 1))
