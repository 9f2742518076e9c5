use Rattle.std.specs.Prelude.{take}
use Rattle.kernel_read.specs.Feeds.{HasNoFeed}
use Rattle.kernel_read.proofs.feeds.first_line.Given as goal

abbrev pub invariant-loop-i : goal.invariant-loop-i
invariant-loop-i l = HasNoFeed (take l.i l.text)
