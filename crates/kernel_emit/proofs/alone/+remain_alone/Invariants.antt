use Rattle.std.specs.Prelude.{length}
use Rattle.kernel_emit.proofs.alone.+remain_alone.Given as goal

abbrev pub decreases-remain_alone : goal.decreases-remain_alone
decreases-remain_alone l = length l.these.now
