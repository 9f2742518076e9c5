use Rattle.std.specs.Prelude.{length}
use Rattle.nested_sums.proofs.multiplying.+added.Given as goal

abbrev pub decreases-added : goal.decreases-added
decreases-added l = length l.terms.now
