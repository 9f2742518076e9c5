use Rattle.kernel_code.specs.declared.syntax.KExpr.{Num}
use Rattle.dead_code.proofs.Gathering.{first_now}
use Rattle.dead_code.proofs.Leaving.{push_left}
use Rattle.dead_code.proofs.statements.live_push.Goals as goal

pub returns : goal.returns
returns c =
    let o = c.in_ok-operands.operands in
    let live = c.gather_one.new.live in
    let before = c.args.before.now in
    push_left live c.args.live.now before o.taken c.args.e.now (Num 0) c.into_first.result o.second c.args.a
    (first_now live c.args.live.now before c.args.e.now (Num 0) o.first c.into_first.result o.second o.taken c.into_first.ensures
    c.in_ok-operands.ensures)
