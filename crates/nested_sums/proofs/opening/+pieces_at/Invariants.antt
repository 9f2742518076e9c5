use Rattle.std.specs.Prelude.{length}
use Rattle.nested_sums.proofs.opening.+pieces_at.Given as goal

abbrev pub decreases-pieces_at : goal.decreases-pieces_at
decreases-pieces_at l = length l.opened.now
