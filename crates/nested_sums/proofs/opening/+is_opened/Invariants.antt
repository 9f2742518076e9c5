use Rattle.std.specs.Prelude.{length}
use Rattle.nested_sums.proofs.opening.+is_opened.Given as goal

abbrev pub decreases-is_opened : goal.decreases-is_opened
decreases-is_opened l = length l.opened.now
