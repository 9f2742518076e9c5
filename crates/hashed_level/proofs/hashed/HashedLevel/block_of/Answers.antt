use Rattle.std.proofs.Common.{◌+◌, ◌*◌, ◌^◌, ◌<◌, sym, subst, arith}
use Rattle.hashed_level.proofs.Laws.{block_word}
use Rattle.hashed_level.proofs.hashed.HashedLevel.block_of.Goals as goal

pub overflow_mul-lo : goal.overflow_mul-lo
overflow_mul-lo c =
    let small : c.args.parent * c.width_now-width.result + c.width_now-width.result < 2 ^ 64 =
    subst (λ w. c.args.parent * w + w < 2 ^ 64) (sym c.width_now-width.ensures)
    (block_word c.args.self.now c.args.parent c.know_rules.ensures c.requires) in
    omega (arith, small)

pub overflow_add-result : goal.overflow_add-result
overflow_add-result c =
    let small : c.args.parent * c.width_now-width.result + c.width_now-width.result < 2 ^ 64 =
    subst (λ w. c.args.parent * w + w < 2 ^ 64) (sym c.width_now-width.ensures)
    (block_word c.args.self.now c.args.parent c.know_rules.ensures c.requires) in
    omega (arith, small)
