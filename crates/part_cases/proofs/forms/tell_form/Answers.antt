use Rattle.std.specs.Prelude.{length}
use Rattle.std.proofs.Common.{sym, subst}
use Rattle.concrete_notation.specs.Nests.{IsOrderOf}
use Rattle.concrete_notation.proofs.Orders.{is_order_of}
use Rattle.part_cases.proofs.forms.tell_form.Goals as goal

pub concretize-requires-clause-order : goal.concretize-requires-clause-order
concretize-requires-clause-order c =
    subst (IsOrderOf (length c.args.statement.now.vars)) (sym c.as_slice-vars.ensures)
    (subst (λ n. IsOrderOf n c.in-Ok.order) c.len.ensures
    (is_order_of c.len.result c.as_slice.result.now c.in-Ok.order c.in-Ok.ensures))
