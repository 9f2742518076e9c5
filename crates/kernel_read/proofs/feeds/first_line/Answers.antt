use Rattle.std.specs.Prelude.{◌<◌, length}
use Rattle.std.proofs.Common.{arith}
use Rattle.kernel_read.proofs.FeedLaws.{line_here, no_feed_next}
use Rattle.kernel_read.proofs.feeds.first_line.Goals as goal

pub loop-i-preserved : goal.loop-i-preserved
loop-i-preserved c =
    let within : c.loop-i.i < length c.args.text.now = omega (arith, c.loop-i-test.true) in
    no_feed_next c.args.text.now c.loop-i.i within c.loop-i.invariant c.if-byte-eq10.false

pub returns-then-byte-eq10 : goal.returns-then-byte-eq10
returns-then-byte-eq10 c =
    let within : c.loop-i.i < length c.args.text.now = omega (arith, c.loop-i-test.true) in
    line_here c.args.text.now c.loop-i.i within c.loop-i.invariant c.if-byte-eq10.true
