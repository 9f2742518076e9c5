use Rattle.std.specs.Prelude.{length}
use Rattle.index_notation.proofs.checks.+is_apart.Given as goal

abbrev pub decreases-is_apart : goal.decreases-is_apart
decreases-is_apart l = length l.others.now
