use Rattle.std.specs.Prelude.{◌≡◌}
use Rattle.storage_cases.proofs.tensors.entries_of.Given as goal

abbrev pub invariant-loop-line : goal.invariant-loop-line
invariant-loop-line l = l.entries.order ≡ l.order
