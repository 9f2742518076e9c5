use Rattle.std.specs.Prelude.{◌≡◌, ◌+◌, replicate}
use Rattle.hashed_level.specs.Slots.{empty_slot}
use Rattle.hashed_level.proofs.slots.empty_slots.Given as goal

abbrev pub invariant-loop-made : goal.invariant-loop-made
invariant-loop-made l = (l.slots.items ≡ replicate l.made empty_slot) × (l.slots.spare + l.made ≡ l.fn.count)
