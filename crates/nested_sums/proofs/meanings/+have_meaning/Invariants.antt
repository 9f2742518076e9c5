use Rattle.std.specs.Prelude.{length}
use Rattle.nested_sums.proofs.meanings.+have_meaning.Given as goal

abbrev pub decreases-have_meaning : goal.decreases-have_meaning
decreases-have_meaning g l = length l.sums.now
