use Rattle.std.proofs.Common.{sym, subst}
use Rattle.drained_workspaces.specs.Draining.{Sorts}
use Rattle.touched_workspaces.specs.Drained.{touched_draining}
use Rattle.touched_workspaces.specs.Sinks.{touched_sink}
use Rattle.touched_workspaces.proofs.DrainedCodes.{sorts_as}
use Rattle.touched_workspaces.proofs.drained.TouchedSinkDrainedWorkspace.sort.Goals as goal

pub returns : goal.returns
returns c =
    subst (Sorts touched_sink touched_draining c.args.self.now) (sym c.in_ok-code.ensures) (sorts_as c.args.self.now)
