use Rattle.std.specs.Prelude.{◌≡◌, drop}
use Rattle.lowering.specs.Sums.{are_bound}
use Rattle.lowering.proofs.sums.are_bound.Given as goal

-- those so far are bound
abbrev pub invariant-loop-at : goal.invariant-loop-at
invariant-loop-at l = are_bound l.bound l.vars ≡ are_bound l.bound (drop l.at l.vars)
