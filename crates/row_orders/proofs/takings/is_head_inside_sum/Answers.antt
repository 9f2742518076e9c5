use Rattle.std.specs.Prelude.{◌<◌, true, false, length}
use Rattle.std.proofs.Common.{◌∙◌, sym, arith}
use Rattle.row_orders.specs.Heads.{head_levels}
use Rattle.row_orders.specs.Takings.{is_inside_sum}
use Rattle.row_orders.proofs.Steps.{head_on}
use Rattle.row_orders.proofs.takings.is_head_inside_sum.Goals as goal

pub returns-then-is_inside_sum : goal.returns-then-is_inside_sum
returns-then-is_inside_sum c =
    let end = c.head_length-depth-end.ensures.value in
    let inside : c.loop-depth.depth < length (head_levels c.args.format.now) = omega (arith, c.loop-depth-test.true, end) in
    sym (sym c.loop-depth.invariant
    ∙ head_on (is_inside_sum c.args.statement.now c.args.order.now) c.args.format.now c.args.statement.now.left.vars c.loop-depth.depth
    c.variable_at-variable.result true inside c.variable_at-variable.ensures (sym c.is_inside_sum.ensures ∙ c.if-is_inside_sum.true))

pub loop-depth-preserved : goal.loop-depth-preserved
loop-depth-preserved c =
    let end = c.head_length-depth-end.ensures.value in
    let inside : c.loop-depth.depth < length (head_levels c.args.format.now) = omega (arith, c.loop-depth-test.true, end) in
    sym (head_on (is_inside_sum c.args.statement.now c.args.order.now) c.args.format.now c.args.statement.now.left.vars
    c.loop-depth.depth c.variable_at-variable.result false inside c.variable_at-variable.ensures
    (sym c.is_inside_sum.ensures ∙ c.if-is_inside_sum.false)) ∙ c.loop-depth.invariant
