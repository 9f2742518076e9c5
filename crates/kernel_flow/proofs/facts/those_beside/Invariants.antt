use Rattle.kernel_flow.specs.Facts.{Gives}
use Rattle.kernel_flow.proofs.facts.those_beside.Given as goal

abbrev pub invariant-loop-fact : goal.invariant-loop-fact
invariant-loop-fact l = Gives l.yielded l.others
