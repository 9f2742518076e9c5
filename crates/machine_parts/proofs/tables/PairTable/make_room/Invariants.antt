use Rattle.std.proofs.Common.{◌≡◌, ℕ, ◌≤◌, length}
use Rattle.machine_parts.specs.ArrayPlaces.{held_pair}
use Rattle.machine_parts.proofs.tables.PairTable.make_room.Given as goal

-- the numbers are as before, and there is a row for each so far
abbrev pub invariant-loop : goal.invariant-loop
invariant-loop l = ((m : ℕ) (n : ℕ) → held_pair l.self m n ≡ held_pair l.fn.self m n) × (l.counter ≤ length l.self.rows.items)
