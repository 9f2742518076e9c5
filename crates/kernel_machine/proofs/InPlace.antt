-- Kernels that work in place, and results whose levels are all dense.
use Rattle.kernel_interpreter.proofs.NoRefusal.{never_too_long}
use Rattle.kernel_machine.specs.declared.refusal.RunRefusal.TheVariants.{SizeLimit, Memory}
use Rattle.kernel_machine.specs.Laws.{RefusesNothing}
use Rattle.kernel_machine.specs.Runs.{most_turns}

pub refuses_nothing : RefusesNothing
refuses_nothing a kernel store given Memory works dense refusal = refusal works dense
refuses_nothing a kernel store given (SizeLimit place count) works dense refusal =
    absurd (never_too_long a _ kernel given most_turns place count works refusal)
