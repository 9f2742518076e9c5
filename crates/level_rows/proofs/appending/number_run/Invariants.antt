use Rattle.level_rows.proofs.RunSteps.{RunNumbered}
use Rattle.level_rows.proofs.appending.number_run.Given as goal

abbrev pub invariant-loop-next : goal.invariant-loop-next
invariant-loop-next l = RunNumbered l.first l.next l.fn.positions l.positions
