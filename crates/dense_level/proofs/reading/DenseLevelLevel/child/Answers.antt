use Rattle.std.proofs.Common.{sym, arith}
use Rattle.dense_level.proofs.Laws.{child_is}
use Rattle.limits.proofs.Limits.{positions_are_small}
use Rattle.dense_level.proofs.reading.DenseLevelLevel.child.Goals as goal

pub overflow_add-result : goal.overflow_add-result
overflow_add-result c = let k = child_is c.args.self.now c.args.pos c.requires.0 c.requires.1 c.requires.2 c.requires.4 in let small =
    positions_are_small in omega (arith, k.1, small)

pub returns : goal.returns
returns c = λ parent e ok same stands. sym (child_is c.args.self.now c.args.pos parent e ok stands).0
