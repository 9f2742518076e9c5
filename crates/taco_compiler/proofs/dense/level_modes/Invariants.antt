use Rattle.std.specs.Prelude.{◌≡◌, take}
use Rattle.format_spec.specs.Formats.{modes_of}
use Rattle.taco_compiler.proofs.dense.level_modes.Given as goal

-- the modes so far
abbrev pub invariant-loop-level : goal.invariant-loop-level
invariant-loop-level l = l.modes ≡ modes_of (take l.level-index l.format)
