use Rattle.std.proofs.Common.{length}
use Rattle.loop_flags.proofs.told.+flag_of.Given as goal

abbrev pub decreases-flag_of : goal.decreases-flag_of
decreases-flag_of l = length l.told.now
