use Rattle.std.specs.Prelude.{length}
use Rattle.nested_sums.proofs.opening.+push_products.Given as goal

abbrev pub decreases-push_products : goal.decreases-push_products
decreases-push_products l = length l.firsts.now
