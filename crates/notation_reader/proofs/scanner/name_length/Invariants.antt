use Rattle.std.proofs.Common.{take}
use Rattle.index_notation.specs.Tokens.{goes_on, EachPasses}
use Rattle.notation_reader.proofs.scanner.name_length.Given as goal

abbrev pub invariant-loop-i : goal.invariant-loop-i
invariant-loop-i l = EachPasses goes_on (take l.i l.text)
