use Rattle.std.proofs.Common.{sym, subst}
use Rattle.drained_workspaces.specs.Draining.{Empties}
use Rattle.pair_workspaces.specs.Drained.{pair_draining}
use Rattle.pair_workspaces.specs.Sinks.{pair_sink}
use Rattle.pair_workspaces.proofs.EmptyLaws.{empties_pairs}
use Rattle.pair_workspaces.proofs.drained.PairSinkDrainedWorkspace.empty.Goals as goal

pub returns : goal.returns
returns c = subst (Empties pair_sink pair_draining c.args.self.now) (sym c.in_ok-code.ensures) (empties_pairs c.args.self.now)
