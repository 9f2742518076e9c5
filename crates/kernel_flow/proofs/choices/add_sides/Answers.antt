use Rattle.std.proofs.Common.{◌∙◌, ap, sym}
use Rattle.kernel_code.specs.declared.syntax.Op.TheVariants.{Equal}
use Rattle.kernel_code.specs.declared.syntax.KExpr.{Bin}
use Rattle.kernel_flow.proofs.ChoiceLemmas.{sides_same}
use Rattle.kernel_flow.proofs.choices.add_sides.Goals as goal

pub returns-in-Bin : goal.returns-in-Bin
returns-in-Bin c =
    sides_same c.add_same.result c.args.facts.now c.add_same.new.facts c.args.t.now c.get.result.now c.get-in-Bin.result.now
    (c.in-Bin.is ∙ ap (λ o. Bin o c.in-Bin.a c.in-Bin.b) (c.is_equal.ensures c.if-is_equal.true)
    ∙ ap (λ x. Bin Equal x c.in-Bin.b) (sym c.get.ensures) ∙ ap (Bin Equal c.get.result.now) (sym c.get-in-Bin.ensures))
    c.add_same.ensures
