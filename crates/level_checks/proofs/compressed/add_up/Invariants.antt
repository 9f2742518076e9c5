use Rattle.std.specs.Prelude.{◌≡◌, ◌+◌, drop}
use Rattle.level_core.specs.Logs.{total}
use Rattle.level_checks.proofs.compressed.add_up.Given as goal

abbrev pub invariant-loop-number : goal.invariant-loop-number
invariant-loop-number l = total l.numbers + l.left ≡ total (drop l.number-index l.numbers) + l.fn.count
