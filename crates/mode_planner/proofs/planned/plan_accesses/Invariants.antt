use Rattle.std.specs.Prelude.{take}
use Rattle.mode_planner.specs.Planned.{IsPlannedOf}
use Rattle.mode_planner.proofs.planned.plan_accesses.Given as goal

abbrev pub invariant-loop-access : goal.invariant-loop-access
invariant-loop-access l = IsPlannedOf l.statement l.formats (take l.access-index l.statement.accesses) l.plan
