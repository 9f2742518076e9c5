use Rattle.format_spec.proofs.OrderSteps.{Started}
use Rattle.format_spec.proofs.modes.read_modes.Given as goal

abbrev pub invariant-loop-place : goal.invariant-loop-place
invariant-loop-place l = Started l.place l.fn.order l.fn.text l.modes
