use Rattle.std.specs.Prelude.{length}
use Rattle.index_notation.proofs.checks.+has_one_order.Given as goal

abbrev pub decreases-has_one_order : goal.decreases-has_one_order
decreases-has_one_order l = length l.others.now
