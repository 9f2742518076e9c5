use Rattle.std.proofs.Common.{◌≡◌, ◌≤◌, ◌+◌, length, map, take}
use Rattle.machine_parts.proofs.sums.values_of.Given as goal

abbrev pub invariant-loop-row : goal.invariant-loop-row
invariant-loop-row l = (l.words.items ≡ map (λ r. r.value) (take l.row-index l.rows)) × (length l.rows ≤ l.words.spare + l.row-index)
