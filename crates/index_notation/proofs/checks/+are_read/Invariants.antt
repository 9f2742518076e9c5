use Rattle.std.specs.Prelude.{length}
use Rattle.index_notation.proofs.checks.+are_read.Given as goal

abbrev pub decreases-are_read : goal.decreases-are_read
decreases-are_read l = length l.accesses.now
