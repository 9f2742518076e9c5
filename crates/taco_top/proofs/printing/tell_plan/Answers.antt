use Rattle.std.proofs.Common.{subst, sym}
use Rattle.taco_top.specs.Told.{Tells}
use Rattle.taco_top.specs.Run.{request_of}
use Rattle.reports.specs.Plans.{plan_text}
use Rattle.taco_top.proofs.Accepted.{left_has_format, right_have_formats}
use Rattle.taco_top.proofs.Stopped.{cause_of_printing, reads_nothing, tells_plan}
use Rattle.taco_top.proofs.printing.tell_plan.Goals as goal

pub plan-requires-clause-left : goal.plan-requires-clause-left
plan-requires-clause-left g c =
    left_has_format c.requires.asked.0 (request_of c.args.asked.now) c.requires.asked.1 c.requires.numbered c.as_slice.result.now
    c.as_slice.ensures.value

pub plan-requires-clause-right : goal.plan-requires-clause-right
plan-requires-clause-right g c =
    right_have_formats c.requires.asked.0 (request_of c.args.asked.now) c.requires.asked.1 c.requires.numbered c.as_slice.result.now
    c.as_slice.ensures.value

pub returns-in-Ok : goal.returns-in-Ok
returns-in-Ok g c = λ over words files asks.
    let told = tells_plan over words files (request_of c.args.asked.now) c.in-Ok.plan asks c.requires.task c.as_slice.result.now
    c.as_slice.ensures.value c.in-Ok.ensures in
    cause_of_printing over words files files (g.O.Sink.state c.args.out.now) (g.O.Sink.state c.print_plan.new.out)
    (plan_text c.args.asked.now.statement c.as_slice-in-Ok.result.now) (reads_nothing files)
    (subst (λ plan. Tells over words files files (plan_text c.args.asked.now.statement plan)) (sym c.as_slice-in-Ok.ensures) told)
    c.print_plan.result c.printed.result c.printed.ensures c.print_plan.ensures.whole c.print_plan.ensures.part
