use Rattle.mode_planner.proofs.PlannedValues.{values_kept}
use Rattle.mode_planner.proofs.laws.planned_statements_keep_values.Goals as goal

pub returns : goal.returns
returns c = values_kept
