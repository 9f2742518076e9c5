use Rattle.jump_threading.specs.Leads.{LeavesValue, last_of}
use Rattle.jump_threading.proofs.leading.take_lead.Given as goal

abbrev pub invariant-loop-lead : goal.invariant-loop-lead
invariant-loop-lead l = LeavesValue (last_of l.lead l.before) l.test
