use Rattle.mode_planner.proofs.Forward.{all_forward, no_cycle}
use Rattle.mode_planner.proofs.laws.planned_loops_have_an_order.Goals as goal

pub returns-clause-forward : goal.returns-clause-forward
returns-clause-forward c = all_forward

pub returns-clause-no_cycle : goal.returns-clause-no_cycle
returns-clause-no_cycle c = no_cycle
