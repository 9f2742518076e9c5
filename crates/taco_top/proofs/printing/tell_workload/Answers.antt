use Rattle.reports.specs.Reports.{workload_line}
use Rattle.taco_top.proofs.Stopped.{cause_of_printing, reads_nothing, tells_workload}
use Rattle.taco_top.proofs.printing.tell_workload.Goals as goal

pub returns-in-Ok : goal.returns-in-Ok
returns-in-Ok g c = λ over words files line.
    cause_of_printing over words files files (g.O.Sink.state c.args.out.now) (g.O.Sink.state c.print_workload.new.out)
    (workload_line c.in-Ok.workload) (reads_nothing files)
    (tells_workload over words files c.args.size c.in-Ok.workload line c.in-Ok.ensures.run c.in-Ok.ensures.few)
    c.print_workload.result c.printed.result c.printed.ensures c.print_workload.ensures.whole c.print_workload.ensures.part
