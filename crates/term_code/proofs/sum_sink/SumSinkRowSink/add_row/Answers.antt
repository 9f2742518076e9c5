use Rattle.std.proofs.Common.{sym, subst}
use Rattle.result_targets.specs.Sinks.{AddsTo}
use Rattle.term_code.specs.SumSinks.{sum_sink}
use Rattle.term_code.proofs.SumLaws.{adds_value}
use Rattle.term_code.proofs.sum_sink.SumSinkRowSink.add_row.Goals as goal

pub returns : goal.returns
returns c =
    let k = c.args.self.now in
    subst (AddsTo sum_sink k c.args._keys.now c.args.value c.args._free) (sym c.in_ok-code.ensures)
    (adds_value k c.args._keys.now c.args.value c.args._free)
