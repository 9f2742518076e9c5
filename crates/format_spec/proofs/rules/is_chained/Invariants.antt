use Rattle.std.specs.Prelude.{◌↔◌, false, drop}
use Rattle.format_spec.specs.Formats.{letters_of, Chained}
use Rattle.format_spec.proofs.rules.is_chained.Given as goal

-- the levels are chained if those that are left are
abbrev pub invariant-loop-level : goal.invariant-loop-level
invariant-loop-level l = Chained l.groups (letters_of (drop l.level-index l.levels)) ↔ Chained false (letters_of l.levels)
