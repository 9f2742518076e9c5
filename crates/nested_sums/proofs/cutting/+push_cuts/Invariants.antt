use Rattle.std.specs.Prelude.{length}
use Rattle.nested_sums.proofs.cutting.+push_cuts.Given as goal

abbrev pub decreases-push_cuts : goal.decreases-push_cuts
decreases-push_cuts l = length l.pieces.now
