use Rattle.std.proofs.Common.{length}
use Rattle.level_location.proofs.gathering.+gather_levels.Given as goal

abbrev pub decreases-gather_levels : goal.decreases-gather_levels
decreases-gather_levels l = length l.seeks.now
