use Rattle.std.specs.Prelude.{◌+◌, take}
use Rattle.expr_terms.proofs.Heights.{height}
use Rattle.nested_sums.proofs.Standings.{weight}
use Rattle.nested_sums.proofs.bad_sums.+first_bad.Given as goal

abbrev pub decreases-first_bad : goal.decreases-first_bad
decreases-first_bad l = weight (take l.count l.statement.now.sums) + height l.expr.now
