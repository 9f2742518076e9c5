use Rattle.std.proofs.Common.{◌≡◌, ◌++◌, drop}
use Rattle.expr_terms.specs.Ranges.{places_in}
use Rattle.expr_terms.proofs.bound.places_in.Given as goal

abbrev pub invariant-loop-access : goal.invariant-loop-access
invariant-loop-access l = l.places.items ++ places_in (drop l.access-index l.accesses) l.var ≡ places_in l.accesses l.var
