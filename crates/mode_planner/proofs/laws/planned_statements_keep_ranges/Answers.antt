use Rattle.mode_planner.proofs.PlannedRanges.{ranges_kept}
use Rattle.mode_planner.proofs.laws.planned_statements_keep_ranges.Goals as goal

pub returns : goal.returns
returns c = ranges_kept
