use Rattle.std.proofs.Common.{sym, subst}
use Rattle.touched_workspaces.specs.Drains.{TakesNext}
use Rattle.touched_workspaces.proofs.DrainLaws.{takes_next}
use Rattle.touched_workspaces.proofs.drains.take_next.Goals as goal

pub returns : goal.returns
returns c =
    subst (TakesNext c.args.sink c.args.at c.args.free) (sym c.in_ok-code.ensures)
    (takes_next c.args.sink c.args.at c.args.free c.requires)
