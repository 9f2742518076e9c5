use Rattle.std.specs.Prelude.{length, ◌-◌}
use Rattle.kernel_read.proofs.ReadLines.{ReadSoFar}
use Rattle.kernel_read.proofs.kernels.kernel_behind.Given as goal

abbrev pub invariant-loop-at : goal.invariant-loop-at
invariant-loop-at l = ReadSoFar l.text l.at l.lines l.depth l.progress

abbrev pub decreases-loop-at : goal.decreases-loop-at
decreases-loop-at l = length l.text - l.at
