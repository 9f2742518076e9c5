use Rattle.mode_planner.proofs.PlannedLaws.{are_origins, can_be_compiled}
use Rattle.mode_planner.proofs.planned.plan_statement.Goals as goal

pub returns-in-Err-Cycle-clause-compiled : goal.returns-in-Err-Cycle-clause-compiled
returns-in-Err-Cycle-clause-compiled c =
    can_be_compiled c.args.statement.now c.args.formats.now c.in_ok-plan-in-Err-Cycle.plan c.in_ok-plan-in-Err-Cycle.ensures
    c.requires.numbered c.requires.named c.requires.left c.requires.right c.in_ok-edges.ensures.formats

pub returns-in-Err-Cycle-clause-origins : goal.returns-in-Err-Cycle-clause-origins
returns-in-Err-Cycle-clause-origins c =
    are_origins c.args.statement.now c.args.formats.now c.in_ok-plan-in-Err-Cycle.plan c.in_ok-plan-in-Err-Cycle.ensures
    c.requires.numbered c.requires.named c.requires.left c.requires.right
