use Rattle.std.proofs.Common.{subst, sym, arith}
use Rattle.std.proofs.lemmas.Grind.{common_steps}
use Rattle.outside.specs.Sink.{AppendsSoFar}
use Rattle.outside.proofs.Sinks.{so_far_more}
use Rattle.outside.proofs.batch.give.Goals as goal

pub loop-rest-preserved : goal.loop-rest-preserved
loop-rest-preserved g c =
    subst (AppendsSoFar (g.S.Sink.state c.args.sink.now) (g.S.Sink.state c.write.new.self) c.args.bytes.now) (sym c.split_at.ensures.back)
    (so_far_more _ _ _ _ _ _ (grind (arith, common_steps)) c.loop-rest.invariant c.in-Ok.ensures.taken)
