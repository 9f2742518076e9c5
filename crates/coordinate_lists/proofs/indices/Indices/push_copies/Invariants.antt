use Rattle.std.proofs.Common.{◌≡◌, ◌+◌, ◌++◌, replicate}
use Rattle.coordinate_lists.proofs.indices.Indices.push_copies.Given as goal

abbrev pub invariant-loop-pushed : goal.invariant-loop-pushed
invariant-loop-pushed l = (l.self.items ≡ l.initial.self.items ++ replicate l._pushed l.x)
    × (l.self.spare + l._pushed ≡ l.initial.self.spare) × (l.self.wide ≡ l.initial.self.wide)
