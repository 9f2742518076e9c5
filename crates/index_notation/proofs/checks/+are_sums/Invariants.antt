use Rattle.std.specs.Prelude.{length}
use Rattle.index_notation.proofs.checks.+are_sums.Given as goal

abbrev pub decreases-are_sums : goal.decreases-are_sums
decreases-are_sums l = length l.sums.now
