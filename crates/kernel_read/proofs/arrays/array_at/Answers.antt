use Rattle.kernel_read.proofs.Forms.{reads_array}
use Rattle.kernel_read.proofs.arrays.array_at.Goals as goal

pub returns : goal.returns
returns c =
    reads_array c.args.line.now c.args.at
    (record {
      range = c.in_default.ensures;
      values = c.in_default-numbered_at.ensures;
      sums = c.in_default-numbered_at-2.ensures;
      coordinates = c.in_default-numbered_at-3.ensures;
      positions = c.in_default-numbered_at-4.ensures;
      keys = c.in_default-key_at.ensures;
    }) c.level_array_at.result c.level_array_at.ensures
