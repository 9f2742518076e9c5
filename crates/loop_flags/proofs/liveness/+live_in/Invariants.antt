use Rattle.expr_terms.proofs.Heights.{height}
use Rattle.loop_flags.proofs.liveness.+live_in.Given as goal

abbrev pub decreases-live_in : goal.decreases-live_in
decreases-live_in l = height l.expr.now
