use Rattle.dead_code.proofs.Leaving.{extend_left}
use Rattle.dead_code.proofs.statements.live_extend.Goals as goal

pub returns : goal.returns
returns c =
    let o = c.in_ok-operands in
    extend_left c.gather_live.new.live c.args.live.now c.args.before.now o.operands.taken c.args.count.now c.args.e.now o.operands.first
    o.operands.second c.args.a o.ensures
