use Rattle.std.specs.Prelude.{length}
use Rattle.term_code.proofs.workspace_sink.+push_from.Given as goal

abbrev pub decreases-push_from : goal.decreases-push_from
decreases-push_from l = length l.keys.now
