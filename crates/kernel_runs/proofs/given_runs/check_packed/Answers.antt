use Rattle.kernel_machine.specs.Begins.{store_of}
use Rattle.kernel_runs.proofs.given_runs.check_packed.Goals as goal

pub returns-clause-run : goal.returns-clause-run
returns-clause-run g c = record {
  runs = c.in-Ok.ensures;
  lists = c.in_ok-entries.ensures.lists;
  each = c.in_ok-entries.ensures.entries;
  shape_is = c.in_ok-shape.ensures;
}

pub returns-in-Err-clause-refused : goal.returns-in-Err-clause-refused
returns-in-Err-clause-refused g c =
    c.fault_of.ensures g.S.Semiring.arithmetic c.args.kernel.now (store_of c.args.ranges.now c.args.operands.now c.args.format)
    c.args.budget
    c.in-Err.ensures
