use Rattle.std.specs.Prelude.{length}
use Rattle.expr_terms.proofs.nested.+push_names.Given as goal

abbrev pub decreases-push_names : goal.decreases-push_names
decreases-push_names l = length l.sums.now
