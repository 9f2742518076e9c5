use Rattle.std.specs.Prelude.{◌-◌}
use Rattle.level_core.proofs.Walks.{Walking}
use Rattle.level_core.proofs.walking.walk.Given as goal

abbrev pub invariant-loop-position : goal.invariant-loop-position
invariant-loop-position g l = Walking l.segment.lo l.position l.segment.hi l.entries (g.L.LevelKind.meaning.entries l.level l.fn.parent)

abbrev pub decreases-loop-position : goal.decreases-loop-position
decreases-loop-position g l = l.segment.hi - l.position
