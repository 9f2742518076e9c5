use Rattle.std.proofs.Common.{refl}
use Rattle.kernel_flow.proofs.ChoiceLemmas.{fact_joined}
use Rattle.kernel_flow.proofs.choices.add_joined.Goals as goal

pub returns-in-Var : goal.returns-in-Var
returns-in-Var c =
    fact_joined c.add_flag.result c.args.facts.now c.add_flag.new.facts c.args.elsewhere.now c.args.fact.now c.args.fact.now.left
    c.args.test.now refl (c.is_number.ensures c.if-not-is_number.false) c.add_flag.ensures

pub returns-in-Bin-Equal-default-default : goal.returns-in-Bin-Equal-default-default
returns-in-Bin-Equal-default-default c =
    fact_joined c.add_guarded.result c.args.facts.now c.add_guarded.new.facts c.args.elsewhere.now c.args.fact.now c.args.fact.now.left
    c.args.test.now refl (c.is_number.ensures c.if-not-is_number.false) c.add_guarded.ensures
