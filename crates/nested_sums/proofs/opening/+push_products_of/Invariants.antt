use Rattle.std.specs.Prelude.{length}
use Rattle.nested_sums.proofs.opening.+push_products_of.Given as goal

abbrev pub decreases-push_products_of : goal.decreases-push_products_of
decreases-push_products_of l = length l.seconds.now
