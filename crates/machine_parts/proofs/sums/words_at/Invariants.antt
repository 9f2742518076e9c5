use Rattle.std.proofs.Common.{◌≡◌, ◌≤◌, ◌+◌, length, map, take}
use Rattle.std.specs.Prelude.{slice_index}
use Rattle.machine_parts.proofs.sums.words_at.Given as goal

abbrev pub invariant-loop-row : goal.invariant-loop-row
invariant-loop-row l = (l.words.items ≡ map (λ r. slice_index l.column r.place) (take l.row-index l.rows))
    × (length l.rows ≤ l.words.spare + l.row-index)
