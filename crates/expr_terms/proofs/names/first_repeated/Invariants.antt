use Rattle.std.proofs.Common.{take}
use Rattle.index_notation.specs.Statement.{IsDistinct}
use Rattle.expr_terms.proofs.names.first_repeated.Given as goal

abbrev pub invariant-loop-i : goal.invariant-loop-i
invariant-loop-i l = IsDistinct (take l.i l.numbers)
