use Rattle.std.specs.Prelude.{length}
use Rattle.nested_sums.proofs.units.+with_units.Given as goal

abbrev pub decreases-with_units : goal.decreases-with_units
decreases-with_units l = length l.vars.now
