use Rattle.std.specs.Prelude.{◌<◌, Some, length}
use Rattle.std.proofs.Common.{arith, ◌∙◌}
use Rattle.kernel_read.specs.Brackets.{open_behind}
use Rattle.kernel_read.proofs.BracketLaws.{open_more, open_none}
use Rattle.kernel_read.proofs.brackets.open_behind.Goals as goal

pub loop-byte-preserved : goal.loop-byte-preserved
loop-byte-preserved c =
    let below : c.loop-byte.byte-index < length c.args.line.now = omega arith in
    open_more (open_behind (Some c.args.depth) c.args.line.now) c.args.line.now c.loop-byte.byte-index c.loop-byte.depth
    (Some c.in_ok-depth.depth) below c.loop-byte.invariant c.in_ok-depth.ensures

pub returns-in_err-depth : goal.returns-in_err-depth
returns-in_err-depth c =
    let below : c.loop-byte.byte-index < length c.args.line.now = omega arith in
    c.from_residual.ensures
    ∙ open_none (open_behind (Some c.args.depth) c.args.line.now) c.args.line.now c.loop-byte.byte-index c.loop-byte.depth below
    c.loop-byte.invariant c.in_err-depth.ensures
