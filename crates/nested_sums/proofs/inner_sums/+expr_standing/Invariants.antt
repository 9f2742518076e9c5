use Rattle.std.specs.Prelude.{◌+◌, take}
use Rattle.expr_terms.proofs.Heights.{height}
use Rattle.nested_sums.proofs.Standings.{weight}
use Rattle.nested_sums.proofs.inner_sums.+expr_standing.Given as goal

abbrev pub decreases-expr_standing : goal.decreases-expr_standing
decreases-expr_standing l = weight (take l.count l.statement.now.sums) + height l.expr.now
