use Rattle.kernel_read.proofs.LineForms.{no_opening}
use Rattle.kernel_read.proofs.lines.Line.opening_at.Goals as goal

pub returns-in-None : goal.returns-in-None
returns-in-None c =
    no_opening c.args.line.now c.args.at c.args.combines (rw c.in_default.is at c.in_ok-statement.ensures)
    (rw c.in_default-2.is at c.in_ok-e.ensures) (rw c.in-None.is at c.in_ok-kind.ensures)
