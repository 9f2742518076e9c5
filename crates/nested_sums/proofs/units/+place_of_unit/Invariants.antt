use Rattle.std.specs.Prelude.{length}
use Rattle.nested_sums.proofs.units.+place_of_unit.Given as goal

abbrev pub decreases-place_of_unit : goal.decreases-place_of_unit
decreases-place_of_unit l = length l.sums.now
