use Rattle.std.specs.Prelude.{filter_map}
use Rattle.std.proofs.Common.{◌≡◌, ◌++◌, drop}
use Rattle.expr_terms.specs.Ranges.{exact_of}
use Rattle.expr_terms.specs.Told.{bound_at}
use Rattle.expr_terms.proofs.range.exact_ranges.Given as goal

abbrev pub invariant-loop-place : goal.invariant-loop-place
invariant-loop-place l = l.exact.items ++ filter_map (λ place. exact_of (bound_at l.bounds place.tensor place.mode))
    (drop l.place-index l.places) ≡ l.initial.exact.items ++ filter_map (λ place. exact_of (bound_at l.bounds place.tensor place.mode))
    l.places
