use Rattle.std.specs.Prelude.{◌≡◌, drop}
use Rattle.std.specs.List.{list_any}
use Rattle.expr_terms.specs.declared.group.Group.{Group}
use Rattle.expr_terms.specs.Terms.{contains}
use Rattle.row_orders.specs.Takings.{is_summed}
use Rattle.row_orders.proofs.takings.is_summed.Given as goal

-- none of the groups so far has the variable
abbrev pub invariant-loop-group : goal.invariant-loop-group
invariant-loop-group l =
    list_any (λ (group : Group). contains group.vars l.variable) (drop l.group-index l.groups.list) ≡ is_summed l.statement l.variable
