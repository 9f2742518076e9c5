use Rattle.std.proofs.Common.{length}
use Rattle.statement_facts.proofs.facts.+facts_of_levels.Given as goal

abbrev pub decreases-facts_of_levels : goal.decreases-facts_of_levels
decreases-facts_of_levels l = length l.levels.now
