use Rattle.std.specs.Prelude.{length}
use Rattle.nested_sums.proofs.inner_sums.+stands_before.Given as goal

abbrev pub decreases-stands_before : goal.decreases-stands_before
decreases-stands_before l = length l.order.now
