use Rattle.format_spec.proofs.Dense.{DenseSoFar}
use Rattle.format_spec.proofs.format.Format.all_dense.Given as goal

abbrev pub invariant-loop-mode : goal.invariant-loop-mode
invariant-loop-mode l = DenseSoFar l.mode l.levels
