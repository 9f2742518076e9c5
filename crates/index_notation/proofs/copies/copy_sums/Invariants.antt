use Rattle.std.specs.Prelude.{◌≡◌, take}
use Rattle.index_notation.proofs.copies.copy_sums.Given as goal

abbrev pub invariant-loop-sum : goal.invariant-loop-sum
invariant-loop-sum l = l.copies ≡ take l.sum-index l.sums
