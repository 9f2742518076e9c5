use Rattle.std.proofs.Common.{◌≡◌, drop}
use Rattle.expr_terms.specs.Ranges.{first_above}
use Rattle.expr_terms.specs.Told.{bound_at}
use Rattle.expr_terms.proofs.range.first_above.Given as goal

abbrev pub invariant-loop-place : goal.invariant-loop-place
invariant-loop-place l = first_above l.range (bound_at l.bounds) (drop l.place-index l.places) ≡ first_above l.range (bound_at l.bounds)
    l.places
