use Rattle.kernel_read.proofs.StatementForms.{no_stored}
use Rattle.kernel_read.proofs.statements.stored_at.Goals as goal

pub returns-in-None : goal.returns-in-None
returns-in-None c =
    no_stored c.args.line.now c.args.at (rw c.in_default.is at c.in_ok-array.ensures) (rw c.in-None.is at c.in_ok-array-2.ensures)
