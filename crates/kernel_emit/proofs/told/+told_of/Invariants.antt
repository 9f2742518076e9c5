use Rattle.std.specs.Prelude.{length}
use Rattle.kernel_emit.proofs.told.+told_of.Given as goal

abbrev pub decreases-told_of : goal.decreases-told_of
decreases-told_of l = length l.told.now
