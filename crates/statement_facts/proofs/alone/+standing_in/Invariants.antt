use Rattle.std.proofs.Common.{length}
use Rattle.statement_facts.proofs.alone.+standing_in.Given as goal

abbrev pub decreases-standing_in : goal.decreases-standing_in
decreases-standing_in l = length l.accesses.now
