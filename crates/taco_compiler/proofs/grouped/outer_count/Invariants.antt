use Rattle.std.specs.Prelude.{◌≡◌, take, drop}
use Rattle.row_orders.specs.Orders.{AreOutsideSums}
use Rattle.taco_compiler.specs.Tails.{from_sum}
use Rattle.taco_compiler.proofs.grouped.outer_count.Given as goal

-- no summed variable stands before one of those so far
abbrev pub invariant-loop-depth : goal.invariant-loop-depth
invariant-loop-depth l = record {
  outside : AreOutsideSums l.statement l.order (take l.depth l.left);
  rest : from_sum l.statement l.order (drop l.depth l.left) ≡ from_sum l.statement l.order l.left;
}
