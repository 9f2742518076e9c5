use Rattle.std.proofs.Common.{take}
use Rattle.simplifier.specs.Refines.{Refines}
use Rattle.store_facts.specs.Facts.{KeepsFacts}
use Rattle.store_facts.proofs.loops.+loops.Given as goal

abbrev pub invariant-loops_in-loop-s : goal.invariant-loops_in-loop-s
invariant-loops_in-loop-s l = Refines (KeepsFacts l.facts) l.out (take l.s-index l.code)
