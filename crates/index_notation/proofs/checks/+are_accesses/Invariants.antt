use Rattle.std.specs.Prelude.{length}
use Rattle.index_notation.proofs.checks.+are_accesses.Given as goal

abbrev pub decreases-are_accesses : goal.decreases-are_accesses
decreases-are_accesses l = length l.accesses.now
