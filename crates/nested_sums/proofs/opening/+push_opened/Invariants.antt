use Rattle.std.specs.Prelude.{length}
use Rattle.nested_sums.proofs.opening.+push_opened.Given as goal

abbrev pub decreases-push_opened : goal.decreases-push_opened
decreases-push_opened l = length l.sums.now
