use Rattle.touched_kernels.proofs.JoinLaws.{sums_touched}
use Rattle.touched_kernels.proofs.sums.sum_touched.Goals as goal

pub returns : goal.returns
returns c =
    sums_touched c.args.sink c.args.at c.in_ok-test.test c.in_ok-take.take c.in_ok-turn.turn c.in_ok-code.code c.in_ok-take.ensures
    c.in_ok-test.ensures c.in_ok-turn.ensures c.in_ok-code.ensures
