use Rattle.std.specs.Prelude.{slice_index}
use Rattle.level_checks.proofs.HashedWords.{blocks_more}
use Rattle.level_checks.proofs.hashed.keep_blocks.Goals as goal

pub loop-parent-preserved : goal.loop-parent-preserved
loop-parent-preserved c =
    let l = c.loop-parent in
    blocks_more (slice_index c.args.slots.now) c.args.size c.args.width l.parent l.invariant
    (c.keeps_block.ensures.0 c.if-not-keeps_block.false)
