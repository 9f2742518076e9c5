use Rattle.kernel_flow.proofs.ChoiceLemmas.{flag_joined}
use Rattle.kernel_flow.proofs.choices.add_flag.Goals as goal

pub returns-then-is_told : goal.returns-then-is_told
returns-then-is_told c =
    flag_joined c.add_fact.result c.args.facts.now c.add_fact.new.facts c.args.elsewhere.now c.args.e.now c.args.test.now _
    c.add_fact.ensures
    c.in_ok-left.ensures c.in_ok-right.ensures (c.is_told.ensures c.if-is_told.true)
