use Rattle.std.specs.Prelude.{length}
use Rattle.nested_sums.proofs.opening.+push_negated.Given as goal

abbrev pub decreases-push_negated : goal.decreases-push_negated
decreases-push_negated l = length l.pieces.now
