use Rattle.std.proofs.Common.{◌≡◌, ◌∷◌, take, map}
use Rattle.expr_terms.specs.Expanded.{moved_access, old_access}
use Rattle.expr_terms.proofs.expansion.old_access.Given as goal

abbrev pub invariant-loop-access : goal.invariant-loop-access
invariant-loop-access l = l.all ≡ old_access l.fn.vars ∷ map moved_access (take l.access-index l.accesses)
