use Rattle.std.proofs.Common.{◌≤◌, ◌-◌}
use Rattle.outside.specs.ReadStop.{Feeds}
use Rattle.outside.proofs.reads.read_rest.Given as goal

abbrev pub invariant-loop-n : goal.invariant-loop-n
invariant-loop-n g l = record {
  feeds : Feeds (g.F.Folder.state l.initial.files) (g.F.Folder.state l.files) (g.E.Eater.eaten l.initial.eater)
      (g.E.Eater.eaten l.eater) l.count;
  within : l.count ≤ l.budget;
}

abbrev pub decreases-loop-n : goal.decreases-loop-n
decreases-loop-n g l = l.budget - l.count
