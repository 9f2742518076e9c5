use Rattle.std.proofs.Common.{◌≡◌, length}
use Rattle.dead_code.specs.Live.{Covers, CoversBelow}
use Rattle.dead_code.proofs.live.join.Given as goal

abbrev pub invariant-loop-x : goal.invariant-loop-x
invariant-loop-x l = record {
  below : CoversBelow l.x l.live l.other;
  covers : Covers l.live l.fn.live;
  long : length l.live ≡ length l.fn.live;
}
