use Rattle.std.specs.Prelude.{◌≡◌, ◌≤◌, length, take, vec_len, vec_capacity}
use Rattle.storage_builder.proofs.builder.fill.Given as goal

abbrev pub invariant-loop-value : goal.invariant-loop-value
invariant-loop-value l =
    (l.room.items ≡ take l.value-index l.words) × (vec_len l.room ≡ l.value-index) × (length l.words ≤ vec_capacity l.room)
