use Rattle.std.specs.Prelude.{◌≢◌, ℕ, ◌<◌, slice_index}
use Rattle.operand_packing.proofs.packing.comes_again.Given as goal

abbrev pub invariant-loop-later : goal.invariant-loop-later
invariant-loop-later l = (k : ℕ) → l.place < k → k < l.later → slice_index l.numbers k ≢ slice_index l.numbers l.place
