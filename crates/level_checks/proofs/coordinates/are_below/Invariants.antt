use Rattle.std.specs.Prelude.{drop}
use Rattle.level_core.specs.GroupLaws.{CoordsBelow}
use Rattle.level_checks.proofs.Loops.{Same}
use Rattle.level_checks.proofs.coordinates.are_below.Given as goal

abbrev pub invariant-loop-x : goal.invariant-loop-x
invariant-loop-x l = Same (CoordsBelow l.size (drop l.x-index l.coords)) (CoordsBelow l.size l.coords)
