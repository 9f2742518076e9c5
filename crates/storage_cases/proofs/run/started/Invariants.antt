use Rattle.std.proofs.Common.{◌≡◌}
use Rattle.kernel_interpreter.specs.Store.{made}
use Rattle.storage_cases.proofs.run.started.Given as goal

-- no turn is made
abbrev pub invariant-loop-number : goal.invariant-loop-number
invariant-loop-number l = made l.machine ≡ 0
