use Rattle.std.proofs.Common.{subst}
use Rattle.kernel_flow.specs.Choices.{Tells}
use Rattle.kernel_flow.proofs.FactLemmas.{gives_place}
use Rattle.kernel_flow.proofs.ChoiceLemmas.{gives_told}
use Rattle.kernel_flow.proofs.choices.told.Goals as goal

pub loop-fact-preserved : goal.loop-fact-preserved
loop-fact-preserved c =
    let item = c.fact-item.result in
    gives_told c.args.facts.now c.loop-fact.out c.add_told.new.facts item c.args.test.now c.args.n c.loop-fact.invariant
    (gives_place c.args.facts.now item c.loop-fact.fact-index c.loop-fact-test.true c.fact-item.is) c.requires
    (subst (λ f. Tells f c.args.test.now c.args.n c.loop-fact.out c.add_told.new.facts) c.get.ensures c.in_ok-add_told.ensures)
