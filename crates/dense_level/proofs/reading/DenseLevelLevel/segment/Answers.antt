use Rattle.std.proofs.Common.{◌*◌, ◌^◌, ◌<◌, sym, subst, arith}
use Rattle.dense_level.proofs.Laws.{small_start, small_end}
use Rattle.dense_level.proofs.reading.DenseLevelLevel.segment.Goals as goal

pub overflow_mul-result : goal.overflow_mul-result
overflow_mul-result c =
    let small : c.args.parent.lo * c.self.inside.size < 2 ^ 64 =
    subst (λ n. c.args.parent.lo * n < 2 ^ 64) (sym c.self.view_is) (small_start c.args.self.now c.args.parent c.requires) in
    omega (arith, small)

pub overflow_mul-result-2 : goal.overflow_mul-result-2
overflow_mul-result-2 c =
    let small : c.args.parent.hi * c.self.inside.size < 2 ^ 64 =
    subst (λ n. c.args.parent.hi * n < 2 ^ 64) (sym c.self.view_is) (small_end c.args.self.now c.args.parent c.requires) in
    omega (arith, small)
