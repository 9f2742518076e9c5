use Rattle.taco_top.proofs.CycleLaws.{auto_has_no_cycle, order_needs_no_plan}
use Rattle.taco_top.proofs.laws.cycles_are_mended.Goals as goal

pub returns-clause-no_cycle : goal.returns-clause-no_cycle
returns-clause-no_cycle c = auto_has_no_cycle

pub returns-clause-as_asked : goal.returns-clause-as_asked
returns-clause-as_asked c = order_needs_no_plan
