use Rattle.std.proofs.Common.{◌+◌, ◌*◌}
use Rattle.kernel_interpreter.proofs.Heights.{height}
use Rattle.kernel_interpreter.proofs.machine.+value.Given as goal

-- an operand that isn't read where it stands is an expression of the same height
abbrev pub decreases-operand : goal.decreases-operand
decreases-operand l = 2 * height l.e.now + 1

abbrev pub decreases-value_of : goal.decreases-value_of
decreases-value_of l = 2 * height l.e.now
