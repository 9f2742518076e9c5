use Rattle.std.specs.Prelude.{◌≡◌, map, take, string_bytes}
use Rattle.format_spec.specs.Formats.{letters_of}
use Rattle.format_spec.specs.Words.{letter_byte}
use Rattle.mode_planner.proofs.formats.letters_text.Given as goal

abbrev pub invariant-loop-level : goal.invariant-loop-level
invariant-loop-level l = string_bytes l.text ≡ map letter_byte (letters_of (take l.level-index l.level-items))
