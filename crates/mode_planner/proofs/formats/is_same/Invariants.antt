use Rattle.std.specs.Prelude.{◌≡◌, take}
use Rattle.mode_planner.proofs.formats.is_same.Given as goal

abbrev pub invariant-loop-level : goal.invariant-loop-level
invariant-loop-level l = take l.level l.format ≡ take l.level l.other
