use Rattle.std.specs.Prelude.{◌≡◌, ◌+◌, ◌-◌, ◌≤◌, length, slice_index}
use Rattle.hashed_level.specs.Slots.{filled}
use Rattle.level_checks.proofs.blocks.filled_slots.Given as goal

abbrev pub invariant-loop-at : goal.invariant-loop-at
invariant-loop-at l =
    (l.count + length (filled (slice_index l.slots) (l.width - l.at) (l.base + l.at)) ≡ length
    (filled (slice_index l.slots) l.width l.base))
    × (l.count ≤ l.at)
