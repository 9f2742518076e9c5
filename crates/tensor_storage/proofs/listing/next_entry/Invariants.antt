use Rattle.std.specs.Prelude.{◌-◌, ◌≤◌, List}
use Rattle.level_core.specs.declared.span.Entry.{Entry}
use Rattle.tensor_storage.specs.Walks.{Walking}
use Rattle.tensor_storage.proofs.listing.next_entry.Given as goal

abbrev pub invariant-loop-position : goal.invariant-loop-position
invariant-loop-position g l = (l.fn.from ≤ l.position)
    × ((done : List Entry) → Walking l.segment l.fn.from done (g.L.LevelKind.meaning.entries l.level l.fn.parent)
    → Walking l.segment l.position done (g.L.LevelKind.meaning.entries l.level l.fn.parent))

abbrev pub decreases-loop-position : goal.decreases-loop-position
decreases-loop-position g l = l.segment.hi - l.position
