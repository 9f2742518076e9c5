use Rattle.std.specs.Prelude.{length}
use Rattle.nested_sums.proofs.units.+push_absent.Given as goal

abbrev pub decreases-push_absent : goal.decreases-push_absent
decreases-push_absent l = length l.vars.now
