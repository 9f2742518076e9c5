use Rattle.std.proofs.Common.{◌≡◌}
use Rattle.kernel_flow.proofs.rewriting.replaced.Given as goal

abbrev pub invariant-loop-fact : goal.invariant-loop-fact
invariant-loop-fact l = l.e ≡ l.fn.e
