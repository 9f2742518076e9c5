use Rattle.std.proofs.Common.{refl}
use Rattle.kernel_interpreter.proofs.StoreLemmas.{state_of_replaced}
use Rattle.kernel_interpreter.proofs.machine.Machine.replace.Goals as goal

pub returns-in-Some-clause-is : goal.returns-in-Some-clause-is
returns-in-Some-clause-is c =
    λ xs h. state_of_replaced c.args.self.now c.args.a c.in-Some.place c.index_mut.result.now _
    (record { writable = (c.in-Some.ensures, c.requires); is = c.index_mut.ensures.value }) refl
