use Rattle.std.specs.Prelude.{◌≡◌, take}
use Rattle.taco_compiler.proofs.appended.levels_of.Given as goal

-- the levels so far
abbrev pub invariant-loop-level : goal.invariant-loop-level
invariant-loop-level l = l.levels ≡ take l.level-index l.format
