use Rattle.std.proofs.Common.{◌≡◌, map, take}
use Rattle.generated_runs.specs.Workloads.{letter_name}
use Rattle.generated_runs.proofs.statement.letter_names.Given as goal

abbrev pub invariant-loop-letter : goal.invariant-loop-letter
invariant-loop-letter l = l.names ≡ map letter_name (take l.letter-index l.letters)
