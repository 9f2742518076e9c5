use Rattle.loop_flags.proofs.LoopHeights.{height}
use Rattle.loop_flags.proofs.liveness.+live_with.Given as goal

abbrev pub decreases-live_with : goal.decreases-live_with
decreases-live_with l = height l.loops.now
