use Rattle.std.specs.Prelude.{◌+◌, ◌*◌}
use Rattle.std.proofs.Common.{◌∙◌, subst, add-one}
use Rattle.kernel_code.specs.declared.syntax.KExpr.{Var}
use Rattle.level_appends.specs.Positions.{CountsPositions}
use Rattle.appended_results.specs.Parts.{Recounted}
use Rattle.appended_results.proofs.levels.count.Goals as goal

pub returns : goal.returns
returns c letters is =
    let at = c.args.at in
    Recounted (is ∙ c.if-fixed.false)
    (subst (λ k. CountsPositions k (at.free + 2 * k + 1) (Var (at.free + 2 * at.above + 1)) c.in_ok-code.code) (add-one at.above)
    c.in_ok-code.ensures)
