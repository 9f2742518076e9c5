use Rattle.std.specs.Prelude.{◌≡◌, ◌≤◌, ◌+◌, length, take}
use Rattle.coordinate_lists.proofs.indices.Indices.copied.Given as goal

abbrev pub invariant-loop-number : goal.invariant-loop-number
invariant-loop-number l = (l.copy.items ≡ take l.number-index l.numbers) × (length l.numbers ≤ l.copy.spare + l.number-index)
    × (l.copy.wide ≡ l.wide)
