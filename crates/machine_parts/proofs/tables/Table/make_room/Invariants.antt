use Rattle.std.proofs.Common.{◌≡◌, ℕ, ◌≤◌, length}
use Rattle.machine_parts.specs.ArrayPlaces.{held}
use Rattle.machine_parts.proofs.tables.Table.make_room.Given as goal

-- the numbers are as before, and there is a place for each so far and for those that had one
abbrev pub invariant-loop : goal.invariant-loop
invariant-loop l = ((y : ℕ) → held l.self y ≡ held l.fn.self y) × (l.counter ≤ length l.self.items.items)
    × (length l.fn.self.items.items ≤ length l.self.items.items)
