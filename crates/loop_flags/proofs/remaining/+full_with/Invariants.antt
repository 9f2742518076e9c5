use Rattle.loop_flags.proofs.LoopHeights.{height}
use Rattle.loop_flags.proofs.remaining.+full_with.Given as goal

abbrev pub decreases-full_with : goal.decreases-full_with
decreases-full_with l = height l.loops.now
