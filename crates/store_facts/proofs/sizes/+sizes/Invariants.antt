use Rattle.std.proofs.Common.{take}
use Rattle.simplifier.specs.Refines.{Refines}
use Rattle.store_facts.specs.Facts.{KeepsFacts}
use Rattle.store_facts.proofs.sizes.+sizes.Given as goal

abbrev pub invariant-code_by_ranges-loop-s : goal.invariant-code_by_ranges-loop-s
invariant-code_by_ranges-loop-s l = Refines (KeepsFacts l.facts) l.out (take l.s-index l.code)
