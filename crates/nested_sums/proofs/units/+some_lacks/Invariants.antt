use Rattle.std.specs.Prelude.{length}
use Rattle.nested_sums.proofs.units.+some_lacks.Given as goal

abbrev pub decreases-some_lacks : goal.decreases-some_lacks
decreases-some_lacks l = length l.pieces.now
