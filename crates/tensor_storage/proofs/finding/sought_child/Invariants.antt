use Rattle.std.specs.Prelude.{◌-◌, ◌≤◌}
use Rattle.tensor_storage.proofs.Children.{Seeking}
use Rattle.tensor_storage.proofs.finding.sought_child.Given as goal

abbrev pub invariant-loop-position : goal.invariant-loop-position
invariant-loop-position g l = (l.segment.lo ≤ l.position)
    × Seeking l.fn.x l.position l.segment.hi (g.L.LevelKind.meaning.entries l.level l.fn.parent)

abbrev pub decreases-loop-position : goal.decreases-loop-position
decreases-loop-position g l = l.segment.hi - l.position
