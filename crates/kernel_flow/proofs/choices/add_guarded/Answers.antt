use Rattle.std.proofs.Common.{◌∙◌, ap}
use Rattle.kernel_code.specs.declared.syntax.Op.TheVariants.{And}
use Rattle.kernel_code.specs.declared.syntax.KExpr.{Bin}
use Rattle.kernel_flow.proofs.ChoiceLemmas.{guard_joined}
use Rattle.kernel_flow.proofs.choices.add_guarded.Goals as goal

pub returns-then-is_fixed : goal.returns-then-is_fixed
returns-then-is_fixed c =
    guard_joined c.add_fact.result c.args.facts.now c.add_fact.new.facts c.args.elsewhere.now c.args.e.now c.args.test.now _
    c.add_fact.ensures
    (c.in_ok-left.ensures ∙ ap (λ x. Bin And x c.in_ok-guarded.guarded) c.in_ok-guard.ensures
    ∙ ap (Bin And c.args.test.now) c.in_ok-guarded.ensures)
    c.in_ok-right.ensures (c.is_fixed.ensures c.if-is_fixed.true)
