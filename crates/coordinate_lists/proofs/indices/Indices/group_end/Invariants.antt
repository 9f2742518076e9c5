use Rattle.std.proofs.Common.{◌≡◌, ℕ, ◌≤◌, ◌<◌, Some, slice_get}
use Rattle.coordinate_lists.proofs.indices.Indices.group_end.Given as goal

abbrev pub invariant-loop-next : goal.invariant-loop-next
invariant-loop-next l = (q : ℕ) → l.fn.pos ≤ q → q < l.next → slice_get l.self.items q ≡ Some l.coord
