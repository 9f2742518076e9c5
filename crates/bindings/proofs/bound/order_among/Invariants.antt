use Rattle.std.proofs.Common.{◌≡◌, drop}
use Rattle.bindings.specs.Bindings.{order_in}
use Rattle.bindings.proofs.bound.order_among.Given as goal

abbrev pub invariant-loop-access : goal.invariant-loop-access
invariant-loop-access l = order_in l.accesses l.tensor ≡ order_in (drop l.access-index l.accesses) l.tensor
