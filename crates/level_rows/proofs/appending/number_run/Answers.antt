use Rattle.level_rows.proofs.RunSteps.{run_begun}
use Rattle.level_rows.proofs.appending.number_run.Goals as goal

pub loop-next-init : goal.loop-next-init
loop-next-init c = run_begun c.args.first c.args.positions.now c.requires
