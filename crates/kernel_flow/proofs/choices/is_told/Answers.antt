use Rattle.std.proofs.Common.{◌∙◌, sym}
use Rattle.kernel_flow.specs.Choices.{is_value}
use Rattle.kernel_flow.proofs.FactLemmas.{gives_one, same_right}
use Rattle.kernel_flow.proofs.choices.is_told.Goals as goal

pub returns-then-is_number : goal.returns-then-is_number
returns-then-is_number c = λ h.
    let item = c.fact-item.result in
    gives_one c.args.facts.now (is_value c.args.e.now c.args.n) item c.loop-fact.fact-index c.loop-fact-test.true c.fact-item.is
    (c.is_of.ensures c.if-is_of.true)
    (sym (same_right c.get.result.now item c.get.ensures) ∙ c.is_number.ensures c.if-is_number.true)
