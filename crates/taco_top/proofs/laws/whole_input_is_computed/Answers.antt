use Rattle.taco_top.proofs.ExecWhole.{exec_ends}
use Rattle.taco_top.proofs.WholeLaws.{whole_ends, whole_text}
use Rattle.taco_top.proofs.laws.whole_input_is_computed.Goals as goal

pub returns-clause-ends : goal.returns-clause-ends
returns-clause-ends c = whole_ends

pub returns-clause-executed : goal.returns-clause-executed
returns-clause-executed c = exec_ends

pub returns-clause-texts : goal.returns-clause-texts
returns-clause-texts c = whole_text
