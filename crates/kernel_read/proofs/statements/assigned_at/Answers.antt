use Rattle.kernel_read.proofs.StatementForms.{no_assigned, no_set}
use Rattle.kernel_read.proofs.statements.assigned_at.Goals as goal

pub returns-then-not-combines : goal.returns-then-not-combines
returns-then-not-combines c =
    no_set c.args.line.now c.args.at c.args.combines c.if-not-combines.true (rw c.in_default.is at c.in_ok-x.ensures)

pub returns-in-None : goal.returns-in-None
returns-in-None c =
    no_assigned c.args.line.now c.args.at c.args.combines (rw c.in_default.is at c.in_ok-x.ensures)
    (rw c.in_default-2.is at c.in_ok-x-2.ensures) (rw c.in-None.is at c.in_ok-x-3.ensures)
