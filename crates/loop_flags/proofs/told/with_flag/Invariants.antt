use Rattle.std.proofs.Common.{◌≡◌, ◌∷◌, take}
use Rattle.loop_flags.proofs.told.with_flag.Given as goal

-- the first flag, and behind it those so far
abbrev pub invariant-loop-one : goal.invariant-loop-one
invariant-loop-one l = l.more ≡ record { access = l.fn.access; flag = l.fn.flag } ∷ take l.one-index l.told
