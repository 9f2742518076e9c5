use Rattle.format_spec.proofs.Fills.{Filled}
use Rattle.format_spec.proofs.reading.levels_of.Given as goal

abbrev pub invariant-loop-letter : goal.invariant-loop-letter
invariant-loop-letter l = Filled l.letter-index l.letters l.modes l.levels
