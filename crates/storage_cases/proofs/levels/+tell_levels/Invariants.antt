use Rattle.std.proofs.Common.{length}
use Rattle.storage_cases.proofs.levels.+tell_levels.Given as goal

abbrev pub decreases-tell_levels : goal.decreases-tell_levels
decreases-tell_levels l = length l.levels.now
