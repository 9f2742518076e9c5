use Rattle.std.proofs.Common.{subst}
use Rattle.kernel_flow.specs.Choices.{Joins, is_value}
use Rattle.kernel_flow.proofs.ChoiceLemmas.{yield_added, yield_joined, other_added, other_joined}
use Rattle.kernel_flow.proofs.choices.under_test.Goals as goal

pub loop-fact-preserved-in-Some-place_among : goal.loop-fact-preserved-in-Some-place_among
loop-fact-preserved-in-Some-place_among c =
    let new = c.add_unless_among.new.facts in
    let fact = c.in-Some.fact in
    record {
      first = yield_added (is_value c.args.test.now 1) c.loop-fact.yielded c.loop-fact.out new fact c.loop-fact.invariant.first
          c.in_ok-add_unless_among.ensures;
      second = other_added (is_value c.args.test.now 0) c.args.elsewhere.now c.loop-fact.out new fact c.loop-fact.invariant.second
          c.in-Some-place_among.ensures.gives c.in_ok-add_unless_among.ensures;
    }

pub loop-fact-preserved : goal.loop-fact-preserved
loop-fact-preserved c =
    let fact = c.in-Some.fact in
    let others = c.args.elsewhere.now in
    let joined = subst (λ f. Joins f c.args.test.now others c.loop-fact.out c.add_joined.new.facts) c.get.ensures
    c.in_ok-add_joined.ensures in
    record {
      first = yield_joined c.args.test.now c.loop-fact.yielded c.loop-fact.out c.add_joined.new.facts others fact
          c.loop-fact.invariant.first joined;
      second = other_joined c.args.test.now others c.loop-fact.out c.add_joined.new.facts fact c.loop-fact.invariant.second joined;
    }
