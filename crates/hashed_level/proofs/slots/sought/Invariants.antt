use Rattle.std.specs.Prelude.{◌≡◌, ◌+◌, ◌-◌, ◌%◌, ◌≤◌, slice_index}
use Rattle.hashed_level.specs.Slots.{Passes}
use Rattle.hashed_level.proofs.slots.sought.Given as goal

abbrev pub invariant-loop-steps : goal.invariant-loop-steps
invariant-loop-steps l = (l.at ≡ (l.x + l.steps) % l.width) × (l.steps ≤ l.width) × Passes (slice_index l.slots) l.width l.base l.x l.steps

abbrev pub decreases-loop-steps : goal.decreases-loop-steps
decreases-loop-steps l = l.width - l.steps
