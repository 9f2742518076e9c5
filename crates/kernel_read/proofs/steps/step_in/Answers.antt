use Rattle.kernel_read.proofs.StepLaws.{bad_found, deep_found, end_found}
use Rattle.kernel_read.proofs.steps.step_in.Goals as goal

pub returns-in_default : goal.returns-in_default
returns-in_default c =
    end_found c.args.progress c.args.depth c.args.text.now c.unended.result c.requires.fits c.requires.some c.in_default.ensures
    c.unended.ensures

pub returns-in_default-open_behind : goal.returns-in_default-open_behind
returns-in_default-open_behind c =
    deep_found c.args.progress c.args.depth c.in-Some.count c.args.text.now c.in-Some.ensures.1 c.in_default-open_behind.ensures

pub returns-in-None : goal.returns-in-None
returns-in-None c =
    bad_found c.args.progress c.args.depth c.in-Some-open_behind.depth c.in-Some.count c.args.text.now c.in-Some.ensures.1
    c.in-Some-open_behind.ensures (rw c.in-None.is at c.in_ok-progress.ensures)
