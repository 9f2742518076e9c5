use Rattle.std.proofs.Common.{refl}
use Rattle.kernel_code.specs.declared.syntax.KExpr.{Num}
use Rattle.dead_code.specs.Gathers.{Choice}
use Rattle.dead_code.proofs.Gathering.{first_now}
use Rattle.dead_code.proofs.choices.joined.Goals as goal

pub returns : goal.returns
returns c =
    let o = c.in_ok-operands.operands in
    Choice c.join.new.live c.into_first.result o.second c.join.ensures.second c.join.ensures.first
    (first_now c.gather_one.new.live c.join.new.live c.args.before.now c.args.test.now (Num 0) o.first c.into_first.result o.second o.taken
    c.into_first.ensures c.in_ok-operands.ensures)
    refl
