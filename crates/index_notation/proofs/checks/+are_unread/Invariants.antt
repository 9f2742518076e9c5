use Rattle.std.specs.Prelude.{length}
use Rattle.index_notation.proofs.checks.+are_unread.Given as goal

abbrev pub decreases-are_unread : goal.decreases-are_unread
decreases-are_unread l = length l.accesses.now
