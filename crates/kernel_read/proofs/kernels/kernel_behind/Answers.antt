use Rattle.kernel_read.proofs.ReadLines.{bad_step, deep_step, early_told, line_smaller, line_step, not_done}
use Rattle.kernel_read.proofs.kernels.kernel_behind.Goals as goal

pub loop-at-smaller : goal.loop-at-smaller
loop-at-smaller c =
    let l = c.loop-at in
    line_smaller c.args.text.now c.rest_at.result.now l.at l.lines l.depth l.progress c.in-Line.next c.in-Line.inside c.in-Line.count
    c.in_ok-next.field-0 c.rest_at.ensures c.in-Line.is l.invariant c.in_ok-next.ensures

pub loop-at-preserved : goal.loop-at-preserved
loop-at-preserved c =
    let l = c.loop-at in
    line_step c.args.text.now c.rest_at.result.now l.at l.lines l.depth l.progress c.in-Line.next c.in-Line.inside c.in-Line.count
    c.in_ok-next.field-0 c.rest_at.ensures c.in-Line.is l.invariant c.in_ok-next.ensures

pub returns-in-Deep : goal.returns-in-Deep
returns-in-Deep c =
    let l = c.loop-at in (
      l.lines,
      (
        c.saturating_add.ensures,
        deep_step c.args.text.now c.rest_at.result.now l.at l.lines l.depth l.progress c.in_ok-next.field-0 c.rest_at.ensures c.in-Deep.is
            l.invariant c.in_ok-next.ensures,
      ),
    )

pub returns-in-Bad : goal.returns-in-Bad
returns-in-Bad c =
    let l = c.loop-at in (
      l.lines,
      (
        c.saturating_add-in-Bad.ensures,
        bad_step c.args.text.now c.rest_at.result.now l.at l.lines l.depth l.progress c.in_ok-next.field-0 c.rest_at.ensures c.in-Bad.is
            l.invariant c.in_ok-next.ensures,
      ),
    )

pub returns : goal.returns
returns c =
    let l = c.loop-at in (
      l.lines,
      (
        c.saturating_add-in_default.ensures,
        early_told c.args.text.now l.at l.lines l.depth l.progress c.loop-at-test.false l.invariant
            (not_done l.progress c.in_default.not-Done),
      ),
    )
