use Rattle.std.specs.Prelude.{ℕ, ◌<◌}
use Rattle.mode_planner.specs.Planned.{IsStoredAs}
use Rattle.mode_planner.proofs.planned.tensor_of.Given as goal

-- none of the tensors so far
abbrev pub invariant-loop-place : goal.invariant-loop-place
invariant-loop-place l = (tensor : ℕ) → IsStoredAs l.origins l.formats l.origin l.format tensor → l.place < tensor
