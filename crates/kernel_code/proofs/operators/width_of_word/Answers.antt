use Rattle.std.proofs.Common.{arith}
use Rattle.kernel_code.proofs.Widths.{width_is, width_none}
use Rattle.kernel_code.proofs.operators.width_of_word.Goals as goal

pub returns-then-x : goal.returns-then-x
returns-then-x c = width_none c.args.x (omega arith)

pub returns : goal.returns
returns c = width_is c.args.x c.next_power_of_two-power.result
    (omega arith) c.next_power_of_two-power.ensures.power c.next_power_of_two-power.ensures.lower_bound
    c.next_power_of_two-power.ensures.upper_bound
