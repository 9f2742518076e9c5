use Rattle.kernel_flow.proofs.FactLemmas.{survives_next}
use Rattle.kernel_flow.proofs.facts.all_kept.Goals as goal

pub loop-fact-preserved : goal.loop-fact-preserved
loop-fact-preserved c =
    survives_next c.args.x c.args.facts.now c.loop-fact.fact-index c.fact-item.result c.loop-fact-test.true c.fact-item.is
    c.loop-fact.invariant (c.is_kept.ensures.left c.if-not-is_kept.false) (c.is_kept.ensures.right c.if-not-is_kept.false)
