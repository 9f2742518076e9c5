use Rattle.std.proofs.Common.{sym, subst}
use Rattle.result_targets.specs.Sinks.{AddsTo}
use Rattle.touched_workspaces.specs.Sinks.{touched_sink}
use Rattle.touched_workspaces.proofs.RowLaws.{touches_row}
use Rattle.touched_workspaces.proofs.sink.TouchedSinkRowSink.add_row.Goals as goal

pub returns : goal.returns
returns c =
    let k = c.args.self.now in
    subst (AddsTo touched_sink k c.args.keys.now c.args.value c.args._free) (sym c.in_ok-code.ensures)
    (touches_row k c.args.keys.now c.args.value c.args._free)
