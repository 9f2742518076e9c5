use Rattle.std.proofs.Common.{arith}
use Rattle.format_spec.proofs.Dense.{one_more_dense, dense_format}
use Rattle.format_spec.proofs.format.Format.all_dense.Goals as goal

pub loop-mode-preserved : goal.loop-mode-preserved
loop-mode-preserved c =
    one_more_dense c.loop-mode.mode c.loop-mode.levels c.push_reserved.new.self c.loop-mode.invariant c.push_reserved.ensures.items
    c.push_reserved.ensures.capacity

pub invariant_of-result : goal.invariant_of-result
invariant_of-result c =
    dense_format c.loop-mode.mode c.loop-mode.levels (omega (arith, c.loop-mode.auto.mode-end, c.requires)) c.loop-mode.invariant
