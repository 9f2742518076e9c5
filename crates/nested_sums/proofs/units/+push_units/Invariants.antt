use Rattle.std.specs.Prelude.{length}
use Rattle.nested_sums.proofs.units.+push_units.Given as goal

abbrev pub decreases-push_units : goal.decreases-push_units
decreases-push_units l = length l.vars.now
