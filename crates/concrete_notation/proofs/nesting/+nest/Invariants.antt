use Rattle.std.specs.Prelude.{length}
use Rattle.concrete_notation.proofs.nesting.+nest.Given as goal

abbrev pub decreases-nest : goal.decreases-nest
decreases-nest l = length l.loops.now
