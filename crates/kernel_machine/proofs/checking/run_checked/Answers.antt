use Rattle.kernel_machine.specs.Begins.{store_of}
use Rattle.kernel_machine.proofs.Leaving.{checked_answer}
use Rattle.kernel_machine.proofs.checking.run_checked.Goals as goal

pub returns-in-Ok : goal.returns-in-Ok
returns-in-Ok g c =
    checked_answer g.S.Semiring.arithmetic c.args.kernel.now (store_of c.args.ranges.now c.args.operands.now c.args.format) c.args.budget
    c.in-Ok.prepared c.run_prepared.result c.in-Ok.ensures c.run_prepared.ensures
