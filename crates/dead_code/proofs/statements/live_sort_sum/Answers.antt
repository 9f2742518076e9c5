use Rattle.dead_code.proofs.Leaving.{sort_sum_left}
use Rattle.dead_code.proofs.statements.live_sort_sum.Goals as goal

pub returns : goal.returns
returns c = sort_sum_left c.args.live.now c.args.before.now c.args.workspace
