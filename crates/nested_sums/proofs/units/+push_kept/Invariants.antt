use Rattle.std.specs.Prelude.{length}
use Rattle.nested_sums.proofs.units.+push_kept.Given as goal

abbrev pub decreases-push_kept : goal.decreases-push_kept
decreases-push_kept l = length l.sums.now
