use Rattle.std.specs.Prelude.{◌≡◌, ◌≤◌, ◌+◌, true, length, take}
use Rattle.level_core.specs.Logs.{running, total}
use Rattle.compressed_level.proofs.made.sums_of.Given as goal

abbrev pub invariant-loop-number : goal.invariant-loop-number
invariant-loop-number l =
    (l.sums.items ≡ running 0 (take l.number-index l.numbers)) × (l.sum ≡ total (take l.number-index l.numbers))
    × (length l.numbers ≤ l.sums.spare + l.number-index) × (l.sums.wide ≡ true)
