use Rattle.expr_terms.proofs.Heights.{height}
use Rattle.term_code.proofs.values.+emit_value.Given as goal

abbrev pub decreases-emit_value : goal.decreases-emit_value
decreases-emit_value g l = height l.expr.now
