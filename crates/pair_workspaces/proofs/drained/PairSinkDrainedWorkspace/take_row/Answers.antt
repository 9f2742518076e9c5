use Rattle.std.proofs.Common.{sym, subst}
use Rattle.drained_workspaces.specs.Draining.{TakesRow}
use Rattle.pair_workspaces.specs.Drained.{pair_draining}
use Rattle.pair_workspaces.specs.Sinks.{pair_sink}
use Rattle.pair_workspaces.proofs.TakeLaws.{takes_row}
use Rattle.pair_workspaces.proofs.drained.PairSinkDrainedWorkspace.take_row.Goals as goal

pub returns : goal.returns
returns c =
    let k = c.args.self.now in
    subst (TakesRow pair_sink pair_draining k c.args.at c.args.free) (sym c.in_ok-code.ensures)
    (takes_row k c.args.at c.args.free c.requires.below)
