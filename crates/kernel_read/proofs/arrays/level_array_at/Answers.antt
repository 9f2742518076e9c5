use Rattle.kernel_read.proofs.Forms.{no_level_array}
use Rattle.kernel_read.proofs.arrays.level_array_at.Goals as goal

pub returns : goal.returns
returns c =
    no_level_array c.args.line.now c.args.at c.in_default.ensures c.in_default-level_at.ensures c.in_default-level_at-2.ensures
    c.in_default-level_at-3.ensures
