use Rattle.std.proofs.Common.{◌+◌, ◌*◌, ◌^◌, ◌<◌, sym, subst, arith}
use Rattle.level_core.specs.Entries.{one}
use Rattle.dense_level.proofs.Laws.{small_start, small_place}
use Rattle.dense_level.proofs.dense.DenseLevel.place_of.Goals as goal

pub overflow_mul-result : goal.overflow_mul-result
overflow_mul-result c =
    let small : c.args.parent * c.self.inside.size < 2 ^ 64 =
    subst (λ n. c.args.parent * n < 2 ^ 64) (sym c.self.view_is) (small_start c.args.self.now (one c.args.parent) c.requires.parent) in
    omega (arith, small)

pub overflow_add-result : goal.overflow_add-result
overflow_add-result c =
    let small : c.args.parent * c.self.inside.size + c.args.x < 2 ^ 64 =
    subst (λ n. c.args.parent * n + c.args.x < 2 ^ 64) (sym c.self.view_is)
    (small_place c.args.self.now c.args.parent c.args.x c.requires.parent c.requires.below) in
    omega (arith, small)
