use Rattle.touched_workspaces.proofs.DrainedCodes.{empties_as}
use Rattle.touched_workspaces.proofs.drained.TouchedSinkDrainedWorkspace.empty.Goals as goal

pub returns : goal.returns
returns c = empties_as c.args.self.now c.in_ok-code.code c.in_ok-code.ensures
