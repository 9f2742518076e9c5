use Rattle.dead_code.proofs.Leaving.{combine_left}
use Rattle.dead_code.proofs.statements.live_combine.Goals as goal

pub returns : goal.returns
returns c =
    let o = c.in_ok-operands in
    combine_left c.gather_live.new.live c.args.live.now c.args.before.now o.operands.taken c.args.e.now c.args.f.now o.operands.first
    o.operands.second c.forget.new.live c.args.x c.args.op c.forget.ensures o.ensures
