use Rattle.storage_cases.proofs.Opened.{parent_allowed}
use Rattle.storage_cases.proofs.levels.+tell_positions.Goals as goal

pub positions_below-requires : goal.positions_below-requires
positions_below-requires t c =
    parent_allowed c.args.levels.now c.in-Some.level.now c.in-Some.below.now c.args.parents c.in-Some.ensures.cases.0 c.requires
