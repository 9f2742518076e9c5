use Rattle.std.proofs.Common.{◌∙◌, ap, sym}
use Rattle.kernel_code.specs.Meaning.{Ended, set_outcome}
use Rattle.kernel_interpreter.specs.Store.{array_of, count_of, state_of}
use Rattle.kernel_interpreter.proofs.machine.Machine.set.Goals as goal

pub returns-clause-is : goal.returns-clause-is
returns-clause-is c =
    ap Ended (λ i. record {
      vars = λ y. c.put.ensures.value y i;
      arrays = λ a. array_of c.args.self.now a;
      turns = count_of c.args.self.now.turns.counts;
    })
    ∙ ap (set_outcome (state_of c.args.self.now) c.args.x) (sym c.in-Some.is)
