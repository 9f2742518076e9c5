use Rattle.std.specs.Prelude.{length}
use Rattle.nested_sums.proofs.multiplying.+push_finals.Given as goal

abbrev pub decreases-push_finals : goal.decreases-push_finals
decreases-push_finals l = length l.pieces.now
