use Rattle.std.proofs.Common.{◌≡◌, drop}
use Rattle.kernel_interpreter.specs.Store.{state_of}
use Rattle.machine_starts.specs.Begun.{with_workspaces}
use Rattle.machine_starts.proofs.scratch.begin_workspaces.Given as goal

-- what is left of the workspaces makes the rest
abbrev pub invariant-loop-number : goal.invariant-loop-number
invariant-loop-number l = with_workspaces (drop l.number l.workspaces) l.number (state_of l.machine)
    ≡ with_workspaces l.workspaces 0 (state_of l.fn.machine)
