use Rattle.std.specs.Prelude.{max, map}
use Rattle.std.proofs.Common.{◌≡◌, drop}
use Rattle.expr_terms.specs.Ranges.{greatest_of, least_of}
use Rattle.expr_terms.specs.Told.{bound_at}
use Rattle.expr_terms.proofs.range.greatest_bound.Given as goal

abbrev pub invariant-loop-place : goal.invariant-loop-place
invariant-loop-place l = max l.greatest
    (greatest_of (map (λ p. least_of (bound_at l.bounds p.tensor p.mode)) (drop l.place-index l.places))) ≡ greatest_of
    (map (λ p. least_of (bound_at l.bounds p.tensor p.mode)) l.places)
