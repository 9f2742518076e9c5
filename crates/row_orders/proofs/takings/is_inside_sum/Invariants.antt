use Rattle.std.specs.Prelude.{◌≡◌, drop}
use Rattle.row_orders.specs.Takings.{is_inside_sum}
use Rattle.row_orders.proofs.takings.is_inside_sum.Given as goal

-- no variable so far is the one or is summed
abbrev pub invariant-loop-other : goal.invariant-loop-other
invariant-loop-other l = is_inside_sum l.statement (drop l.other-index l.order) l.variable ≡ is_inside_sum l.statement l.order l.variable
