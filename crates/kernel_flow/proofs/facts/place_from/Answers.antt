use Rattle.kernel_flow.proofs.FactLemmas.{gives_one}
use Rattle.kernel_flow.proofs.facts.place_from.Goals as goal

pub returns-then-is_same : goal.returns-then-is_same
returns-then-is_same c =
    let other = c.index-facts-at.result in
    let is = c.index-facts-at.is in
    record {
      within = c.loop-at-test.true;
      gives = gives_one c.args.facts.now c.args.fact.now other c.loop-at.at c.loop-at-test.true is
          (c.is_same.ensures.left c.if-is_same.true)
          (c.is_same.ensures.right c.if-is_same.true);
    }
