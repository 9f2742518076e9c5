use Rattle.std.proofs.Common.{◌∙◌, ap, map}
use Rattle.kernel_code.specs.Meaning.{behind, statements_in_list}
use Rattle.resolved_code.specs.Erase.{erase}
use Rattle.kernel_interpreter.specs.Store.{outcome_at}
use Rattle.kernel_interpreter.proofs.Numbers.{behind_word}
use Rattle.kernel_interpreter.proofs.machine.Machine.behind.Goals as goal

pub returns-in-Stuck-clause-is : goal.returns-in-Stuck-clause-is
returns-in-Stuck-clause-is c =
    let o = outcome_at c.args.step c.args.self.now in
    c.behind_so_many.ensures.is ∙ ap (λ n. behind n o) c.count_resolved.ensures
    ∙ behind_word (statements_in_list (map erase c.args.before.now)) o
