use Rattle.std.proofs.Common.{◌≡◌, drop}
use Rattle.index_notation.specs.Tokens.{behind_blanks}
use Rattle.notation_reader.proofs.scanner.skip_blanks.Given as goal

abbrev pub invariant-loop-i : goal.invariant-loop-i
invariant-loop-i l = behind_blanks l.text ≡ behind_blanks (drop l.i l.text)
