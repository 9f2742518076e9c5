use Rattle.dead_code.proofs.Leaving.{sort_left}
use Rattle.dead_code.proofs.statements.live_sort.Goals as goal

pub returns : goal.returns
returns c = sort_left c.args.live.now c.args.before.now c.args.list
