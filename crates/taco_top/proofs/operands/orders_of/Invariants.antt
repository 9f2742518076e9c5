use Rattle.std.proofs.Common.{◌≡◌, map}
use Rattle.std.specs.List.{range_with_len}
use Rattle.bindings.specs.Bindings.{order_of}
use Rattle.taco_top.proofs.operands.orders_of.Given as goal

-- the orders of the operands so far
abbrev pub invariant-loop-n : goal.invariant-loop-n
invariant-loop-n l = l.orders.items ≡ map (order_of l.statement) (range_with_len 1 l.n)
