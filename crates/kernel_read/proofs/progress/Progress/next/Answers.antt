use Rattle.kernel_read.proofs.ProgressLaws.{not_started, started, was_done}
use Rattle.kernel_read.proofs.progress.Progress.next.Goals as goal

pub returns-in-Some : goal.returns-in-Some
returns-in-Some c =
    started c.args.self c.new.result c.in-Some.semiring c.args.line.now c.in-Start.is c.new.ensures
    (rw c.in-Some.is at c.in_ok-semiring-in-Start.ensures)

pub returns-in-Start : goal.returns-in-Start
returns-in-Start c =
    not_started c.args.self c.args.line.now c.in-Start.is c.requires.line (rw c.in-None.is at c.in_ok-semiring-in-Start.ensures)

pub returns : goal.returns
returns c = was_done c.args.self c.in-Done.field-0 c.args.line.now c.in-Done.is c.requires.fits c.requires.line
