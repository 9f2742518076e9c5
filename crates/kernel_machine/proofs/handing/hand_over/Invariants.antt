use Rattle.kernel_interpreter.specs.Store.{state_of}
use Rattle.kernel_machine.proofs.HandedParts.{Handing}
use Rattle.kernel_machine.proofs.handing.hand_over.Given as goal

-- the levels so far were handed over
abbrev pub invariant-loop-number : goal.invariant-loop-number
invariant-loop-number l = Handing l.fn.builder (state_of l.fn.machine).arrays l.number l.builder (state_of l.machine).arrays
