use Rattle.std.proofs.Common.{◌≡◌}
use Rattle.kernel_interpreter.specs.Store.{state_of}
use Rattle.machine_starts.specs.Begun.{with_lists}
use Rattle.machine_starts.proofs.scratch.begin_lists.Given as goal

abbrev pub invariant-loop-list : goal.invariant-loop-list
invariant-loop-list l = state_of l.machine ≡ with_lists l.list (state_of l.fn.machine)
