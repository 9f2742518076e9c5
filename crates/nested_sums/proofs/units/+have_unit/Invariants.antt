use Rattle.std.specs.Prelude.{length}
use Rattle.nested_sums.proofs.units.+have_unit.Given as goal

abbrev pub decreases-have_unit : goal.decreases-have_unit
decreases-have_unit l = length l.sums.now
