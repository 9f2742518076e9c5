use Rattle.expr_terms.proofs.Heights.{height}
use Rattle.term_code.proofs.presence.+fullness_of.Given as goal

abbrev pub decreases-fullness_of : goal.decreases-fullness_of
decreases-fullness_of l = height l.expr.now
