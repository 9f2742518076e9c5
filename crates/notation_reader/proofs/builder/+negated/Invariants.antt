use Rattle.notation_reader.proofs.builder.+negated.Given as goal

abbrev pub decreases-negated : goal.decreases-negated
decreases-negated l = l.minuses
