use Rattle.kernel_code.specs.declared.syntax.KExpr.{Num}
use Rattle.dead_code.proofs.Gathering.{first_now}
use Rattle.dead_code.proofs.Leaving.{set_left}
use Rattle.dead_code.proofs.statements.live_set.Goals as goal

pub returns : goal.returns
returns c =
    let o = c.in_ok-operands.operands in
    let live = c.gather_one.new.live in
    let before = c.args.before.now in
    set_left live c.args.live.now before o.taken c.args.e.now (Num 0) c.into_first.result o.second c.forget.new.live c.args.x
    c.forget.ensures
    (first_now live c.forget.new.live before c.args.e.now (Num 0) o.first c.into_first.result o.second o.taken c.into_first.ensures
    c.in_ok-operands.ensures)
