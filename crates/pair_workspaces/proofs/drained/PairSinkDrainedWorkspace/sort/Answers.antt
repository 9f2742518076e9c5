use Rattle.std.proofs.Common.{sym, subst}
use Rattle.drained_workspaces.specs.Draining.{Sorts}
use Rattle.pair_workspaces.specs.Drained.{pair_draining}
use Rattle.pair_workspaces.specs.Sinks.{pair_sink}
use Rattle.pair_workspaces.proofs.SortLaws.{sorts_pairs}
use Rattle.pair_workspaces.proofs.drained.PairSinkDrainedWorkspace.sort.Goals as goal

pub returns : goal.returns
returns c = subst (Sorts pair_sink pair_draining c.args.self.now) (sym c.in_ok-code.ensures) (sorts_pairs c.args.self.now)
