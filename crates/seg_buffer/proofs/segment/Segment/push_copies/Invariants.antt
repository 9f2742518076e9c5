use Rattle.std.proofs.Common.{◌≡◌, ◌+◌, ◌++◌, replicate}
use Rattle.seg_buffer.proofs.segment.Segment.push_copies.Given as goal

abbrev pub invariant-loop-pushed : goal.invariant-loop-pushed
invariant-loop-pushed g l = (l.self.items ≡ l.initial.self.items ++ replicate l._pushed l.x)
    × (l.self.spare + l._pushed ≡ l.initial.self.spare)
