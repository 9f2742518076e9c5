use Rattle.std.specs.Prelude.{length}
use Rattle.index_notation.proofs.checks.+are_distinct.Given as goal

abbrev pub decreases-are_distinct : goal.decreases-are_distinct
decreases-are_distinct l = length l.accesses.now
