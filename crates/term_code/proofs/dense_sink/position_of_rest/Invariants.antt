use Rattle.std.specs.Prelude.{◌≡◌, ◌+◌, drop}
use Rattle.term_code.specs.DenseSinks.{position_below}
use Rattle.term_code.proofs.dense_sink.position_of_rest.Given as goal

-- the rest of the keys goes on from here
abbrev pub invariant-loop-n : goal.invariant-loop-n
invariant-loop-n l = position_below (l.n + 2) l.position (drop l.n l.keys) ≡ position_below 2 l.fn.above l.keys
