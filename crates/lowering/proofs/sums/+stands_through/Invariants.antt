use Rattle.std.specs.Prelude.{◌≡◌}
use Rattle.lowering.specs.Seeking.{has_access}
use Rattle.lowering.specs.Sums.{through}
use Rattle.lowering.proofs.sums.+stands_through.Given as goal

abbrev pub decreases-stands_through : goal.decreases-stands_through
decreases-stands_through l = l.limit

-- no sum so far leads to the access
abbrev pub invariant-loop-number : goal.invariant-loop-number
invariant-loop-number l = through l.statement l.number (has_access l.expr) l.access ≡ has_access l.expr l.access
