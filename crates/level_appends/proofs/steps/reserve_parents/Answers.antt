use Rattle.level_appends.proofs.RowSteps.{reserves_parents}
use Rattle.level_appends.proofs.steps.reserve_parents.Goals as goal

pub returns : goal.returns
returns g c =
    reserves_parents g.L.LevelKind.meaning g.met.L.LevelKind.laws (g.L.LevelKind.meaning.kind c.args.level.now) c.args.at.level
    c.args.at.base c.args.free c.requires.cursor c.args.parents c.in_ok-code.code c.in_ok-code.ensures
