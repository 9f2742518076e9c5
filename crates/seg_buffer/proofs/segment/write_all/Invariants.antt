use Rattle.std.proofs.Common.{◌≡◌, ◌+◌, ◌++◌, ◌≤◌, length, take}
use Rattle.seg_buffer.proofs.segment.write_all.Given as goal

abbrev pub invariant-loop-x : goal.invariant-loop-x
invariant-loop-x g l = (l.places.at ≡ l.fn.places.at) × (l.places.room ≡ l.fn.places.room) × (l.end ≡ l.start + l.x-index)
    × (l.end ≤ length l.places.values) × (length l.places.values ≤ l.places.room)
    × (take l.end l.places.values ≡ take l.start l.fn.places.values ++ take l.x-index l.xs)
