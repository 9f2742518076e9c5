use Rattle.variable_numbers.proofs.Whole.{kernel_numbered}
use Rattle.variable_numbers.proofs.kernels.number_variables.Goals as goal

pub returns-in-Ok : goal.returns-in-Ok
returns-in-Ok c =
    kernel_numbered c.args.kernel c.meet_code.new.numbers.names c.as_slice-2.result.now c.in-Ok.body c.as_slice-2.ensures c.in-Ok.ensures
