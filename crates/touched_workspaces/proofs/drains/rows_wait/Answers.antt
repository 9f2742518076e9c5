use Rattle.std.proofs.Common.{sym, subst}
use Rattle.touched_workspaces.specs.Drains.{TellsWaiting}
use Rattle.touched_workspaces.proofs.ReadLaws.{tells_waiting}
use Rattle.touched_workspaces.proofs.drains.rows_wait.Goals as goal

pub returns : goal.returns
returns c = subst (TellsWaiting c.args.sink c.args.at) (sym c.in_ok-test.ensures) (tells_waiting c.args.sink c.args.at)
