use Rattle.touched_workspaces.proofs.DrainedCodes.{takes_as}
use Rattle.touched_workspaces.proofs.drained.TouchedSinkDrainedWorkspace.take_row.Goals as goal

pub returns : goal.returns
returns c = takes_as c.args.self.now c.args.at c.args.free c.in_ok-code.code c.in_ok-code.ensures
