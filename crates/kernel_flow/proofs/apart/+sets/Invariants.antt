use Rattle.std.proofs.Common.{take}
use Rattle.kernel_flow.specs.Apart.{KeepsApart}
use Rattle.kernel_flow.proofs.apart.+sets.Given as goal

abbrev pub invariant-sets_only-loop-s : goal.invariant-sets_only-loop-s
invariant-sets_only-loop-s l = KeepsApart l.some (take l.s-index l.code)
