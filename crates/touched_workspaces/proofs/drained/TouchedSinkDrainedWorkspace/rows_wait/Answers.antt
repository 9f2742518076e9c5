use Rattle.touched_workspaces.proofs.DrainedCodes.{tells_as}
use Rattle.touched_workspaces.proofs.drained.TouchedSinkDrainedWorkspace.rows_wait.Goals as goal

pub returns : goal.returns
returns c = tells_as c.args.self.now c.args.at c.in_ok-test.test c.in_ok-test.ensures
