use Rattle.std.proofs.Common.{sym, subst}
use Rattle.touched_workspaces.specs.Drains.{TakesRow}
use Rattle.touched_workspaces.proofs.ReadLaws.{takes_row}
use Rattle.touched_workspaces.proofs.drains.take_row.Goals as goal

pub returns : goal.returns
returns c =
    subst (TakesRow c.args.sink c.args.at c.args.free) (sym c.in_ok-code.ensures)
    (takes_row c.args.sink c.args.at c.args.free c.requires.below)
