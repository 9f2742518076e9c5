use Rattle.std.proofs.Common.{take}
use Rattle.index_notation.specs.Tokens.{EachPasses}
use Rattle.std.specs.Char.{is_ascii_digit}
use Rattle.notation_reader.proofs.scanner.number_length.Given as goal

abbrev pub invariant-loop-i : goal.invariant-loop-i
invariant-loop-i l = EachPasses is_ascii_digit (take l.i l.text)
