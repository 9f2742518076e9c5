use Rattle.std.proofs.Common.{◌∙◌, ap, sym, arith}
use Rattle.kernel_code.specs.Meaning.{Stuck, behind}
use Rattle.kernel_interpreter.specs.Store.{outcome_at, state_of}
use Rattle.kernel_interpreter.proofs.Numbers.{counted}
use Rattle.kernel_interpreter.proofs.machine.Machine.behind_so_many.Goals as goal

pub returns-in-Stuck-clause-is : goal.returns-in-Stuck-clause-is
returns-in-Stuck-clause-is c =
    let m = c.args.self.now in
    ap (Stuck (state_of m).turns) (counted c.args.count 1 c.saturating_add-self.result (omega arith) c.saturating_add-self.ensures)
    ∙ ap (λ e. behind c.args.count (outcome_at e m)) (sym c.in-Stuck.is)

pub returns-in-StuckInside-clause-is : goal.returns-in-StuckInside-clause-is
returns-in-StuckInside-clause-is c =
    let m = c.args.self.now in
    ap (Stuck (state_of m).turns)
    (counted c.args.count m.stuck_inside c.saturating_add-self-in-StuckInside.result (omega arith)
    c.saturating_add-self-in-StuckInside.ensures)
    ∙ ap (λ e. behind c.args.count (outcome_at e m)) (sym c.in-StuckInside.is)
