use Rattle.kernel_read.proofs.LineForms.{opening_found, opening_none, opening_part}
use Rattle.kernel_read.proofs.lines.Line.opening.Goals as goal

pub returns-in_default : goal.returns-in_default
returns-in_default c =
    opening_none c.args.line.now c.args.at c.args.combines (rw c.in_default.is at c.in_ok-opening.ensures)

pub returns-then-next-line : goal.returns-then-next-line
returns-then-next-line c =
    opening_found c.args.line.now c.args.at c.args.combines c.in-Some.opening c.in-Some.next (rw c.in-Some.is at c.in_ok-opening.ensures)
    c.if-next-line.true

pub returns-else-next-line : goal.returns-else-next-line
returns-else-next-line c =
    λ x fits same.
    opening_part c.args.line.now c.args.at c.args.combines c.in-Some.opening c.in-Some.next c.requires.line
    (rw c.in-Some.is at c.in_ok-opening.ensures) c.if-next-line.false
