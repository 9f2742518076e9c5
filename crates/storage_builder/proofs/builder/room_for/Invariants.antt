use Rattle.std.specs.Prelude.{◌≡◌, ◌≤◌, drop}
use Rattle.limits.specs.Limits.{greatest_position_count}
use Rattle.storage_builder.specs.Building.{dense_room}
use Rattle.storage_builder.proofs.builder.room_for.Given as goal

abbrev pub invariant-loop-size : goal.invariant-loop-size
invariant-loop-size l =
    (dense_room 1 l.sizes ≡ dense_room l.count (drop l.size-index l.sizes)) × (l.count ≤ greatest_position_count)
