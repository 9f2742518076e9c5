use Rattle.std.proofs.Common.{length}
use Rattle.storage_cases.proofs.levels.+tell_positions.Given as goal

abbrev pub decreases-tell_positions : goal.decreases-tell_positions
decreases-tell_positions l = length l.levels.now
