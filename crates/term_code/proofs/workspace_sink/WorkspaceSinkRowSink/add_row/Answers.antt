use Rattle.std.proofs.Common.{sym, subst}
use Rattle.result_targets.specs.Sinks.{AddsTo}
use Rattle.term_code.specs.WorkspaceSinks.{workspace_sink}
use Rattle.term_code.proofs.WorkspaceLaws.{pushes}
use Rattle.term_code.proofs.workspace_sink.WorkspaceSinkRowSink.add_row.Goals as goal

pub returns : goal.returns
returns c =
    let k = c.args.self.now in
    subst (AddsTo workspace_sink k c.args.keys.now c.args.value c.args._free) (sym c.in_ok-code.ensures)
    (pushes k c.args.keys.now c.args.value c.args._free)
