use Rattle.generated_runs.proofs.Drawn.{generated_are}
use Rattle.generated_runs.proofs.tensors.generate.Goals as goal

pub returns : goal.returns
returns c = generated_are c.args.n c.draw_tensor.new.draws.state c.draw_tensor-2.new.draws.state c.in_ok-first.first
    c.in_ok-second.second c.in_ok-third.third c.in_ok-first.ensures.summed c.in_ok-first.ensures.state c.in_ok-second.ensures.summed
    c.in_ok-second.ensures.state c.in_ok-third.ensures.summed
