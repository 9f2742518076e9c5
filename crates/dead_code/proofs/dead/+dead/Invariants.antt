use Rattle.std.proofs.Common.{◌≤◌, drop, length, reverse}
use Rattle.dead_code.specs.Follows.{Follows}
use Rattle.dead_code.specs.Live.{Agree}
use Rattle.dead_code.proofs.dead.+dead.Given as goal

abbrev pub invariant-live_code-loop-end : goal.invariant-live_code-loop-end
invariant-live_code-loop-end l = record {
  within : l.end ≤ length l.code;
  follows : Follows (Agree l.live) (drop l.end l.code) (reverse l.backwards.items) (Agree l.fn.live);
}

abbrev pub decreases-live_code-loop-end : goal.decreases-live_code-loop-end
decreases-live_code-loop-end l = l.end
