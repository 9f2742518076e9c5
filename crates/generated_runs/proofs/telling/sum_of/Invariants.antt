use Rattle.std.proofs.Common.{◌≡◌, map, take}
use Rattle.numbers.specs.Ring.{ring}
use Rattle.numbers.specs.Sums.{total_of}
use Rattle.generated_runs.proofs.telling.sum_of.Given as goal

abbrev pub invariant-loop-i : goal.invariant-loop-i
invariant-loop-i l = l.sum ≡ total_of ring (map (λ entry. entry.value) (take l.i l.entries.list))
