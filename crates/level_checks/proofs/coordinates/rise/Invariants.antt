use Rattle.std.specs.Prelude.{drop}
use Rattle.level_core.specs.Logs.{Rises}
use Rattle.level_checks.specs.Orders.{least_behind}
use Rattle.level_checks.proofs.Loops.{Same}
use Rattle.level_checks.proofs.coordinates.rise.Given as goal

abbrev pub invariant-loop-x : goal.invariant-loop-x
invariant-loop-x l = Same (Rises l.unique (least_behind l.unique l.last) (drop l.x-index l.coords)) (Rises l.unique 0 l.coords)
