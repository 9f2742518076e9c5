use Rattle.expr_terms.proofs.Heights.{height}
use Rattle.workspaces.proofs.parts.+presence.Given as goal

abbrev pub decreases-presence : goal.decreases-presence
decreases-presence g l = height l.expr.now
