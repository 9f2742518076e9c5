use Rattle.expr_terms.proofs.Heights.{height}
use Rattle.expr_terms.proofs.expansion.+moved.Given as goal

abbrev pub decreases-moved : goal.decreases-moved
decreases-moved l = height l.expr.now
