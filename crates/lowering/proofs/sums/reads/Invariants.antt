use Rattle.std.specs.Prelude.{◌≡◌}
use Rattle.lowering.specs.Seeking.{uses}
use Rattle.lowering.specs.Sums.{through}
use Rattle.lowering.proofs.sums.reads.Given as goal

-- no sum so far leads to the access
abbrev pub invariant-loop-number : goal.invariant-loop-number
invariant-loop-number l = through l.statement l.number (uses l.tree) l.access ≡ uses l.tree l.access
