use Rattle.std.proofs.Common.{refl}
use Rattle.kernel_flow.proofs.FactLemmas.{yielded_more, yielded_skip}
use Rattle.kernel_flow.proofs.facts.those_beside.Goals as goal

pub loop-fact-preserved-in-Continue-1 : goal.loop-fact-preserved-in-Continue-1
loop-fact-preserved-in-Continue-1 c =
    yielded_more c.loop-fact.yielded c.loop-fact.others c.push.new.self c.in-Some.fact c.loop-fact.invariant c.in_ok-push.ensures.ok

pub loop-fact-preserved : goal.loop-fact-preserved
loop-fact-preserved c =
    yielded_skip c.loop-fact.yielded c.loop-fact.others c.loop-fact.others c.in-Some.fact c.loop-fact.invariant refl
