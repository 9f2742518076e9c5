use Rattle.taco_top.specs.Run.{request_of}
use Rattle.reports.specs.Reports.{kernel_report}
use Rattle.taco_top.proofs.Stopped.{cause_of_printing, reads_nothing, tells_kernel}
use Rattle.taco_top.proofs.printing.tell_kernel.Goals as goal

pub returns : goal.returns
returns g c = λ over words files accepted kernel.
    cause_of_printing over words files files (g.O.Sink.state c.args.out.now) (g.O.Sink.state c.print_kernel_report.new.out)
    (kernel_report c.args.accepted.now.asked.statement c.as_slice.result.now c.as_slice-2.result.now
    c.args.accepted.now.compiled.kernel)
    (reads_nothing files)
    (tells_kernel over words files (request_of c.args.accepted.now.asked) c.args.accepted.now.compiled.order
    c.args.accepted.now.compiled.kernel accepted c.requires.task kernel c.as_slice.result.now c.as_slice-2.result.now
    c.as_slice.ensures c.as_slice-2.ensures.value)
    c.print_kernel_report.result c.printed.result c.printed.ensures c.print_kernel_report.ensures.whole c.print_kernel_report.ensures.part
