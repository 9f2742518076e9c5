use Rattle.dead_code.specs.Live.{CoversBelow}
use Rattle.dead_code.proofs.live.covers.Given as goal

abbrev pub invariant-loop-x : goal.invariant-loop-x
invariant-loop-x l = CoversBelow l.x l.live l.other
