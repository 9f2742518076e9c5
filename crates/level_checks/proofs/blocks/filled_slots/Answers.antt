use Rattle.std.specs.Prelude.{◌+◌, slice_index}
use Rattle.std.proofs.Common.{arith}
use Rattle.level_checks.proofs.BlockSteps.{filled_next, one_at_most}
use Rattle.level_checks.proofs.blocks.filled_slots.Goals as goal

pub loop-at-preserved : goal.loop-at-preserved
loop-at-preserved c =
    let a = c.args in
    let l = c.loop-at in
    let next = filled_next (slice_index a.slots.now) a.width a.base l.at c.loop-at-test.true in
    let few = one_at_most (slice_index a.slots.now (a.base + l.at)) in
    let so_far = l.invariant.0 in
    let within = l.invariant.1 in
    let here = c.coordinates_in-count.ensures in
    (omega (arith, next, so_far, here), omega (arith, few, within, here))
