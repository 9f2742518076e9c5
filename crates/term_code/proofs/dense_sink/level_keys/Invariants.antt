use Rattle.std.specs.Prelude.{◌≡◌, take}
use Rattle.term_code.specs.DenseSinks.{by_level}
use Rattle.term_code.proofs.dense_sink.level_keys.Given as goal

-- the keys of the levels so far
abbrev pub invariant-loop-mode : goal.invariant-loop-mode
invariant-loop-mode l = l.list ≡ by_level (take l.mode-index l.modes) l.keys
