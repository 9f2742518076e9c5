use Rattle.std.proofs.Common.{ap}
use Rattle.kernel_code.specs.Meaning.{State}
use Rattle.kernel_interpreter.specs.Store.{state_of}
use Rattle.kernel_machine.proofs.HandedParts.{kept}
use Rattle.kernel_machine.proofs.handing.taken_array.Goals as goal

pub returns-in-Some-clause-others : goal.returns-in-Some-clause-others
returns-in-Some-clause-others c =
    λ b other. kept (state_of c.args.machine.now) (state_of c.take_array.new.self) c.args.array b c.in-Some.ensures.left other

pub returns-in-None-clause-others : goal.returns-in-None-clause-others
returns-in-None-clause-others c = λ b other. ap (λ (t : State). t.arrays b) c.in-None.ensures.left
