use Rattle.std.specs.Prelude.{◌+◌, take}
use Rattle.expr_terms.proofs.Heights.{height}
use Rattle.nested_sums.proofs.Standings.{weight}
use Rattle.nested_sums.proofs.bad_sums.+expr_mention.Given as goal

abbrev pub decreases-expr_mention : goal.decreases-expr_mention
decreases-expr_mention l = weight (take l.count l.statement.now.sums) + height l.expr.now
