use Rattle.std.specs.Prelude.{length}
use Rattle.index_notation.proofs.checks.+go_up_from.Given as goal

abbrev pub decreases-go_up_from : goal.decreases-go_up_from
decreases-go_up_from l = length l.numbers.now
