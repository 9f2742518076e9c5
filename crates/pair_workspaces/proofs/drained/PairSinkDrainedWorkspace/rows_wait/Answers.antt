use Rattle.std.proofs.Common.{sym, subst}
use Rattle.drained_workspaces.specs.Draining.{TellsWaiting}
use Rattle.pair_workspaces.specs.Drained.{pair_draining}
use Rattle.pair_workspaces.proofs.TakeLaws.{tells_waiting}
use Rattle.pair_workspaces.proofs.drained.PairSinkDrainedWorkspace.rows_wait.Goals as goal

pub returns : goal.returns
returns c =
    subst (TellsWaiting pair_draining c.args.self.now c.args.at) (sym c.in_ok-test.ensures) (tells_waiting c.args.self.now c.args.at)
