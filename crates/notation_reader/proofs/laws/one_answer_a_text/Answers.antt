use Rattle.notation_reader.proofs.NotationLaws.{statement_once, fault_once, never_both}
use Rattle.notation_reader.proofs.laws.one_answer_a_text.Goals as goal

pub returns-clause-statement : goal.returns-clause-statement
returns-clause-statement c = statement_once

pub returns-clause-fault : goal.returns-clause-fault
returns-clause-fault c = fault_once

pub returns-clause-never_both : goal.returns-clause-never_both
returns-clause-never_both c = never_both
