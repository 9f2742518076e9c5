use Rattle.std.specs.Prelude.{ℕ, ◌<◌, slice_index}
use Rattle.storage_cases.proofs.tensors.is_inside.Given as goal

abbrev pub invariant-loop-mode : goal.invariant-loop-mode
invariant-loop-mode l = (m : ℕ) → m < l.mode → slice_index l.coords m < slice_index l.ranges m
