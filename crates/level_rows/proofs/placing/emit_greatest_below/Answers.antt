use Rattle.std.proofs.Common.{sym, subst}
use Rattle.level_rows.specs.Counting.{FindsGreatest}
use Rattle.level_rows.proofs.CountSteps.{greatest_found}
use Rattle.level_rows.proofs.placing.emit_greatest_below.Goals as goal

pub returns : goal.returns
returns c =
    let at = c.args.at in
    subst (FindsGreatest at.base at.workspace at.list at.level c.args.first) (sym c.in_ok-code.ensures)
    (greatest_found at.base at.workspace at.list at.level c.args.first)
