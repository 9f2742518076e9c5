use Rattle.std.proofs.Common.{◌∙◌, ap, sym, refl}
use Rattle.kernel_code.specs.declared.syntax.Op.TheVariants.{And}
use Rattle.kernel_code.specs.declared.syntax.KExpr.{Bin}
use Rattle.kernel_flow.proofs.ChoiceLemmas.{flag_told, sides_told}
use Rattle.kernel_flow.proofs.choices.add_told.Goals as goal

pub returns-in-Var : goal.returns-in-Var
returns-in-Var c =
    flag_told c.add_fact.result c.args.facts.now c.add_fact.new.facts c.args.fact.now _ c.args.test.now c.in-Var.x c.args.n
    c.add_fact.ensures
    c.in-Var.is (c.same_expr.ensures c.if-not-same_expr.false) refl refl

pub returns-in-Bin : goal.returns-in-Bin
returns-in-Bin c =
    sides_told c.add_sides.result c.args.facts.now c.add_sides.new.facts c.args.fact.now c.args.test.now c.in-Bin.field-1 c.get.result.now
    c.args.n c.add_sides.ensures
    (c.in-Bin.is ∙ ap (λ o. Bin o c.in-Bin.field-1 c.in-Bin.t) (c.is_and.ensures c.if-is_and.true)
    ∙ ap (Bin And c.in-Bin.field-1) (sym c.get.ensures))
    (c.same_expr.ensures c.if-not-same_expr.false) c.if-n-eq1.true
