use Rattle.kernel_flow.specs.Apart.{AreApart}
use Rattle.kernel_flow.specs.Facts.{Gives}
use Rattle.kernel_flow.proofs.facts.those_apart.Given as goal

abbrev pub invariant-loop-fact : goal.invariant-loop-fact
invariant-loop-fact l = record { gives : Gives l.yielded l.kept; apart : AreApart l.some l.kept }
