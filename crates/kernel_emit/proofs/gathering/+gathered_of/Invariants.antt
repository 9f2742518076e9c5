use Rattle.std.specs.Prelude.{length}
use Rattle.kernel_emit.proofs.gathering.+gathered_of.Given as goal

abbrev pub decreases-gathered_of : goal.decreases-gathered_of
decreases-gathered_of l = length l.seeks.now
