use Rattle.std.specs.Prelude.{length}
use Rattle.nested_sums.proofs.cutting.+push_cut.Given as goal

abbrev pub decreases-push_cut : goal.decreases-push_cut
decreases-push_cut l = length l.terms.now
