use Rattle.kernel_read.proofs.LineForms.{no_loop}
use Rattle.kernel_read.proofs.lines.loop_at.Goals as goal

pub returns-in-None : goal.returns-in-None
returns-in-None c =
    no_loop c.args.line.now c.args.at (rw c.in_default.is at c.in_ok-e.ensures) (rw c.in_default-2.is at c.in_ok-e-2.ensures)
    (rw c.in_default-3.is at c.in_ok-e-3.ensures) (rw c.in_default-4.is at c.in_ok-e-4.ensures) (rw c.in-None.is at c.in_ok-e-5.ensures)
