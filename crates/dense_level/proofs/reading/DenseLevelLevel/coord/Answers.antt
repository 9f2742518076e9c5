use Rattle.std.proofs.Common.{◌∙◌, ◌%◌, Some, sym, ap}
use Rattle.dense_level.proofs.Laws.{coord_is, remainder_is}
use Rattle.dense_level.proofs.reading.DenseLevelLevel.coord.Goals as goal

pub returns : goal.returns
returns c = λ parent ok inside.
    ap (λ n. Some (c.args.pos % n)) c.self.view_is
    ∙ ap Some (remainder_is c.args.self.now c.args.pos parent ok inside)
    ∙ sym (coord_is c.args.self.now c.args.pos parent ok inside)
