use Rattle.std.proofs.Common.{◌≡◌, ◌∷◌, take}
use Rattle.kernel_emit.proofs.told.with_told.Given as goal

-- what is told first, and behind it what was so far
abbrev pub invariant-loop-one : goal.invariant-loop-one
invariant-loop-one l = l.more ≡ record { access = l.fn.access; flag = l.fn.flag } ∷ take l.one-index l.told
