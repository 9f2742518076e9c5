use Rattle.std.proofs.Common.{◌∙◌, sym}
use Rattle.hashed_level.proofs.Laws.{coord_is}
use Rattle.hashed_level.proofs.reading.HashedLevelLevel.coord.Goals as goal

pub returns : goal.returns
returns c = λ parent ok inside. c.coordinate_at.ensures ∙ sym (coord_is c.args.self.now c.args.pos parent inside)
