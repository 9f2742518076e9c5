use Rattle.std.specs.Prelude.{length}
use Rattle.nested_sums.proofs.inner_sums.+has_number.Given as goal

abbrev pub decreases-has_number : goal.decreases-has_number
decreases-has_number l = length l.numbers.now
