use Rattle.std.specs.List.{list_any}
use Rattle.std.proofs.Common.{◌∙◌, ap}
use Rattle.expr_terms.specs.declared.group.Group.{Group}
use Rattle.expr_terms.specs.Terms.{contains}
use Rattle.row_orders.proofs.Summed.{summed_in_group}
use Rattle.row_orders.proofs.takings.is_summed.Goals as goal

pub loop-group-init : goal.loop-group-init
loop-group-init c =
    ap (list_any (λ (group : Group). contains group.vars c.args.variable)) c.requires
    ∙ summed_in_group c.args.statement.now c.args.variable
