use Rattle.std.proofs.Common.{◌≡◌, ◌++◌, drop}
use Rattle.expr_terms.specs.Ranges.{places_from}
use Rattle.expr_terms.proofs.bound.push_places.Given as goal

-- with the places that are left they are all
abbrev pub invariant-loop-mode : goal.invariant-loop-mode
invariant-loop-mode l = l.places.items ++ places_from l.tensor l.mode (drop l.mode l.access.vars) l.var ≡ l.initial.places.items ++
    places_from l.tensor 0 l.access.vars l.var
