use Rattle.format_spec.proofs.Letters.{one_unnamed}
use Rattle.format_spec.proofs.reading.levels_of.Goals as goal

pub returns-in_default : goal.returns-in_default
returns-in_default c kinds are =
    one_unnamed c.args.letters.now kinds c.loop-letter.letter-index c.loop-letter-test.true c.in_default.ensures are
