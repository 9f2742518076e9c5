use Rattle.std.specs.Prelude.{◌≡◌, ◌+◌, drop}
use Rattle.appended_results.specs.Values.{place_from}
use Rattle.appended_results.proofs.values.place_from.Given as goal

-- the rest of the keys goes on from here
abbrev pub invariant-loop-n : goal.invariant-loop-n
invariant-loop-n l = place_from (l.depth + l.n) l.place (drop l.n l.keys) ≡ place_from l.depth l.fn.above l.keys
