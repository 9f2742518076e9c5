use Rattle.std.specs.Prelude.{true, false}
use Rattle.std.proofs.Common.{◌∙◌, sym}
use Rattle.row_orders.specs.Takings.{is_summed}
use Rattle.row_orders.proofs.Steps.{inside_on}
use Rattle.row_orders.proofs.takings.is_inside_sum.Goals as goal

pub returns-then-is_summed : goal.returns-then-is_summed
returns-then-is_summed c =
    sym (sym c.loop-other.invariant
    ∙ inside_on (is_summed c.args.statement.now) c.args.order.now c.loop-other.other-index c.args.variable true c.loop-other-test.true
    c.if-other-variable.false (sym c.is_summed.ensures ∙ c.if-is_summed.true))

pub loop-other-preserved : goal.loop-other-preserved
loop-other-preserved c =
    sym (inside_on (is_summed c.args.statement.now) c.args.order.now c.loop-other.other-index c.args.variable false
    c.loop-other-test.true c.if-other-variable.false (sym c.is_summed.ensures ∙ c.if-is_summed.false)) ∙ c.loop-other.invariant
