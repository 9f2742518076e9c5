use Rattle.std.proofs.Common.{◌≡◌, false, refl, rules}
use Rattle.dead_code.specs.Live.{is_live}
use Rattle.dead_code.proofs.Gathering.{gather_more}
use Rattle.dead_code.proofs.operands.gather.Goals as goal

pub loop-n-preserved : goal.loop-n-preserved
loop-n-preserved c =
    let s = c.in-Set in
    let o = c.loop-n.operands in
    let dead : is_live c.args.live.now s.x ≡ false = search rules in
    record {
      taken = refl;
      gathers =
          gather_more c.args.live.now c.args.before.now c.args.e.now c.args.f.now c.loop-n.n c.index-before-before.result s.x
          s.value o.first
          o.second c.in_ok-put_in-in-Set.field-0 c.in_ok-put_in-in-Set-2.field-0 c.loop-n-test.true c.index-before-before.is s.is dead
          c.in_ok-put_in-in-Set.ensures c.in_ok-put_in-in-Set-2.ensures c.loop-n.invariant.gathers;
    }
