use Rattle.std.proofs.Common.{take, [], ◌∷◌}
use Rattle.expr_terms.specs.Names.{AreFaultless}
use Rattle.expr_terms.proofs.names.check_names.Given as goal

abbrev pub invariant-loop-i : goal.invariant-loop-i
invariant-loop-i l = AreFaultless l.statement.left [] (l.statement.left ∷ take l.i l.accesses)
