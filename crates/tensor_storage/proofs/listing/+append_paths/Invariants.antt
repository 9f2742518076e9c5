use Rattle.std.specs.Prelude.{◌≡◌, suc, ◌-◌, length, drop}
use Rattle.tensor_storage.specs.Routes.{routes}
use Rattle.tensor_storage.proofs.AppendSteps.{Appended}
use Rattle.tensor_storage.proofs.listing.+append_paths.Given as goal

abbrev pub decreases-append_paths : goal.decreases-append_paths
decreases-append_paths g l = length l.levels.now - l.depth

abbrev pub invariant-loop-entry : goal.invariant-loop-entry
invariant-loop-entry g l = Appended l.segment l.position (g.L.LevelKind.meaning.entries l.level l.fn.span)
    (routes g.L.LevelKind.meaning (drop (suc l.depth) l.levels)) l.places l.values l.fn.path.items l.fn.entries.list l.entries.list
    × (l.entries.order ≡ l.fn.entries.order) × (l.path.items ≡ l.fn.path.items)

abbrev pub decreases-loop-entry : goal.decreases-loop-entry
decreases-loop-entry g l = l.segment.hi - l.position
