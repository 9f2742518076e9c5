use Rattle.std.proofs.Common.{◌≡◌, ◌≤◌, ◌+◌, ◌++◌}
use Rattle.std.specs.Prelude.{replicate}
use Rattle.machine_parts.proofs.words.append_copies.Given as goal

abbrev pub invariant-loop : goal.invariant-loop
invariant-loop l = (l.words.items ≡ l.fn.words.items ++ replicate l.counter l.word) × (l.n ≤ l.words.spare + l.counter)
