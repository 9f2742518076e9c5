use Rattle.kernel_flow.proofs.ChoiceLemmas.{same_pushed}
use Rattle.kernel_flow.proofs.choices.add_same.Goals as goal

pub returns-then-is_fixed-2 : goal.returns-then-is_fixed-2
returns-then-is_fixed-2 c =
    same_pushed c.add_fact.result c.args.facts.now c.add_fact.new.facts c.args.a.now c.args.b.now _ c.add_fact.ensures c.in_ok-left.ensures
    c.in_ok-right.ensures (c.is_fixed.ensures c.if-is_fixed.true) (c.is_fixed-then-is_fixed.ensures c.if-is_fixed-2.true)
