use Rattle.std.proofs.Common.{take}
use Rattle.kernel_flow.specs.Facts.{Survives}
use Rattle.kernel_flow.proofs.facts.all_kept.Given as goal

abbrev pub invariant-loop-fact : goal.invariant-loop-fact
invariant-loop-fact l = Survives l.x (take l.fact-index l.facts) (take l.fact-index l.facts)
