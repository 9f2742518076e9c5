use Rattle.std.specs.Prelude.{◌≡◌}
use Rattle.appended_results.specs.Sink.{copy_code}
use Rattle.appended_results.proofs.sink.copies.Given as goal

abbrev pub invariant-loop-n : goal.invariant-loop-n
invariant-loop-n l = l.code ≡ copy_code l.free l.keys l.n
