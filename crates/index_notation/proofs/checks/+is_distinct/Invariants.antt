use Rattle.std.specs.Prelude.{length}
use Rattle.index_notation.proofs.checks.+is_distinct.Given as goal

abbrev pub decreases-is_distinct : goal.decreases-is_distinct
decreases-is_distinct l = length l.numbers.now
