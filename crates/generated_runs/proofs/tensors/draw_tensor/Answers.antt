use Rattle.generated_runs.proofs.Drawn.{summed_are}
use Rattle.generated_runs.proofs.tensors.draw_tensor.Goals as goal

pub returns-clause-summed : goal.returns-clause-summed
returns-clause-summed c =
    let sorted = c.in_ok-sort_sum.ensures in
    summed_are c.args.n c.args.draws.now.state c.in_ok-entries.entries c.sort_sum.new.self c.in_ok-entries.ensures.order
    c.in_ok-entries.ensures.drawn sorted.order sorted.values sorted.listed sorted.increasing sorted.shorter
