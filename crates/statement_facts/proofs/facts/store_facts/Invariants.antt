use Rattle.statement_facts.specs.Facts.{AreTrueOfOperands}
use Rattle.statement_facts.proofs.facts.store_facts.Given as goal

abbrev pub invariant-loop-tensor : goal.invariant-loop-tensor
invariant-loop-tensor l = AreTrueOfOperands l.statement l.formats l.facts
