use Rattle.std.specs.Prelude.{length}
use Rattle.kernel_emit.proofs.alone.+has_cursor.Given as goal

abbrev pub decreases-has_cursor : goal.decreases-has_cursor
decreases-has_cursor l = length l.walked.now
