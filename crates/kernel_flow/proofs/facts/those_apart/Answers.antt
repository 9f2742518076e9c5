use Rattle.std.proofs.Common.{refl}
use Rattle.kernel_flow.proofs.ApartLemmas.{apart_more}
use Rattle.kernel_flow.proofs.FactLemmas.{yielded_more, yielded_skip}
use Rattle.kernel_flow.proofs.facts.those_apart.Goals as goal

pub loop-fact-preserved-in-Continue-1 : goal.loop-fact-preserved-in-Continue-1
loop-fact-preserved-in-Continue-1 c = record {
  gives = yielded_more c.loop-fact.yielded c.loop-fact.kept c.push.new.self c.in-Some.fact c.loop-fact.invariant.gives
      c.in_ok-push.ensures.ok;
  apart = apart_more c.args.some.now c.loop-fact.kept c.push.new.self c.in-Some.fact c.loop-fact.invariant.apart
      (c.is_apart.ensures.left c.if-is_apart.true) (c.is_apart.ensures.right c.if-is_apart.true) c.in_ok-push.ensures.ok;
}

pub loop-fact-preserved : goal.loop-fact-preserved
loop-fact-preserved c = record {
  gives = yielded_skip c.loop-fact.yielded c.loop-fact.kept c.loop-fact.kept c.in-Some.fact c.loop-fact.invariant.gives refl;
  apart = c.loop-fact.invariant.apart;
}
