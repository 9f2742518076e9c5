use Rattle.kernel_flow.specs.Facts.{Gives}
use Rattle.kernel_flow.proofs.choices.told.Given as goal

abbrev pub invariant-loop-fact : goal.invariant-loop-fact
invariant-loop-fact l = Gives l.facts l.out
