use Rattle.std.proofs.Common.{◌≡◌}
use Rattle.kernel_interpreter.specs.Store.{state_of}
use Rattle.machine_starts.specs.Begun.{with_keys}
use Rattle.machine_starts.proofs.scratch.begin_keys.Given as goal

abbrev pub invariant-loop-key : goal.invariant-loop-key
invariant-loop-key l = state_of l.machine ≡ with_keys l.workspace l.key (state_of l.fn.machine)
