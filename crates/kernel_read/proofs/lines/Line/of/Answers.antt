use Rattle.kernel_read.proofs.LineForms.{line_closed}
use Rattle.kernel_read.proofs.LineForms.{ok_opened}
use Rattle.kernel_read.proofs.lines.Line.of.Goals as goal

pub returns-in-Some-behind : goal.returns-in-Some-behind
returns-in-Some-behind c =
    ok_opened c.args.combines c.args.line.now c.args.outer c.in-Some.at c.in-Some-behind.at c.in-Some.ensures.1 c.in-Some-behind.ensures
    c.opening.result c.opening.ensures

pub returns-in-None : goal.returns-in-None
returns-in-None c =
    line_closed c.args.combines c.args.line.now c.args.outer c.in-Some.at c.in-Some.ensures.1 c.in-None.ensures c.closing.result
    c.closing.ensures
