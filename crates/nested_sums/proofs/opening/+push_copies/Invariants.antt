use Rattle.std.specs.Prelude.{length}
use Rattle.nested_sums.proofs.opening.+push_copies.Given as goal

abbrev pub decreases-push_copies : goal.decreases-push_copies
decreases-push_copies l = length l.pieces.now
