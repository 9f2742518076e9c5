use Rattle.std.specs.Prelude.{◌≡◌, take}
use Rattle.format_spec.specs.Formats.{modes_of}
use Rattle.format_spec.proofs.text.modes_in.Given as goal

abbrev pub invariant-loop-level : goal.invariant-loop-level
invariant-loop-level l = (l.modes.items ≡ modes_of (take l.level-index l.levels)) × (l.modes.capacity ≡ 6)
