use Rattle.std.proofs.Common.{sym, subst}
use Rattle.result_targets.specs.Sinks.{AddsTo}
use Rattle.kernel_emit.specs.Within.{within_sink}
use Rattle.kernel_emit.proofs.within.WithinRowSink.add_row.Goals as goal

pub returns-in_ok-code-in-Outer : goal.returns-in_ok-code-in-Outer
returns-in_ok-code-in-Outer g c =
    subst (λ w. AddsTo (within_sink g.K.RowSink.sink) w c.args.keys.now c.args.value c.args.free c.in_ok-code-in-Outer.code)
    (sym c.in-Outer.is) c.in_ok-code-in-Outer.ensures

pub returns-in_ok-code-in-Sum : goal.returns-in_ok-code-in-Sum
returns-in_ok-code-in-Sum g c =
    subst (λ w. AddsTo (within_sink g.K.RowSink.sink) w c.args.keys.now c.args.value c.args.free c.in_ok-code-in-Sum.code)
    (sym c.in-Sum.is) c.in_ok-code-in-Sum.ensures
