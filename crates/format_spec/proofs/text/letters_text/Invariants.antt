use Rattle.std.specs.Prelude.{◌≡◌, map, take}
use Rattle.format_spec.specs.Formats.{letters_of}
use Rattle.format_spec.specs.Words.{letter_byte}
use Rattle.format_spec.proofs.text.letters_text.Given as goal

abbrev pub invariant-loop-level : goal.invariant-loop-level
invariant-loop-level l = (l.text.items ≡ map letter_byte (letters_of (take l.level-index l.levels))) × (l.text.capacity ≡ 18)
