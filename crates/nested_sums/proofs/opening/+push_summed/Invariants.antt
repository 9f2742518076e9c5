use Rattle.std.specs.Prelude.{length}
use Rattle.nested_sums.proofs.opening.+push_summed.Given as goal

abbrev pub decreases-push_summed : goal.decreases-push_summed
decreases-push_summed l = length l.pieces.now
