use Rattle.std.specs.Prelude.{length}
use Rattle.index_notation.proofs.checks.+have_orders.Given as goal

abbrev pub decreases-have_orders : goal.decreases-have_orders
decreases-have_orders l = length l.accesses.now
