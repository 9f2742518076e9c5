use Rattle.expr_terms.proofs.Heights.{height}
use Rattle.loop_flags.proofs.remaining.+full_in.Given as goal

abbrev pub decreases-full_in : goal.decreases-full_in
decreases-full_in l = height l.expr.now
