use Rattle.std.specs.Prelude.{◌<◌}
use Rattle.std.proofs.Common.{arith}
use Rattle.kernel_read.proofs.LineForms.{blanks_more, no_blanks}
use Rattle.kernel_read.proofs.lines.behind_blanks.Goals as goal

pub loop-level-preserved : goal.loop-level-preserved
loop-level-preserved c =
    let stands = c.in_ok-at.ensures in
    (stands.within, blanks_more c.args.line.now c.loop-level._level c.loop-level.at c.in_ok-at.at c.loop-level.invariant.1 stands)

pub returns-in_err-at : goal.returns-in_err-at
returns-in_err-at c =
    let below : c.loop-level._level < c.args.depth = omega arith in
    rw c.from_residual.ensures
    (no_blanks c.args.line.now c.loop-level._level c.args.depth c.loop-level.at below c.loop-level.invariant.1 c.in_err-at.ensures)
