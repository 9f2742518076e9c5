use Rattle.reports.specs.Reports.{run_report}
use Rattle.taco_top.specs.Values.{semiring}
use Rattle.taco_top.proofs.Stopped.{cause_of_printing, tells_run}
use Rattle.taco_top.proofs.printing.tell_run.Goals as goal

pub returns : goal.returns
returns g c = λ words files between reads is.
    let over = semiring g.S.Semiring.arithmetic g.S.Semiring.has_minus g.S.Semiring.is_ring g.S.Semiring.is_signed g.S.Semiring.name in
    cause_of_printing over words files between (g.O.Sink.state c.args.out.now) (g.O.Sink.state c.print_run_report.new.out)
    (run_report g.S.Semiring.is_signed c.args.computed.now.statement c.as_slice.result.now c.as_slice-2.result.now
    c.args.computed.now.compiled.kernel
    c.args.computed.now.result.turns c.args.computed.now.result.tensor)
    reads
    (tells_run over words files between c.args.computed.now is c.as_slice.result.now c.as_slice-2.result.now c.as_slice.ensures
    c.as_slice-2.ensures.value)
    c.print_run_report.result c.printed.result c.printed.ensures c.print_run_report.ensures.whole c.print_run_report.ensures.part
