use Rattle.std.specs.Prelude.{◌≡◌, drop}
use Rattle.std.specs.List.{list_any}
use Rattle.iteration_graph.specs.Edges.{by_level}
use Rattle.row_orders.specs.Heads.{head_levels}
use Rattle.row_orders.specs.Takings.{is_inside_sum}
use Rattle.row_orders.proofs.takings.is_head_inside_sum.Given as goal

-- no summed variable stands before one of the levels so far
abbrev pub invariant-loop-depth : goal.invariant-loop-depth
invariant-loop-depth l =
    list_any (is_inside_sum l.statement l.order) (drop l.depth (by_level (head_levels l.format) l.statement.left.vars))
    ≡ list_any (is_inside_sum l.statement l.order) (by_level (head_levels l.format) l.statement.left.vars)
