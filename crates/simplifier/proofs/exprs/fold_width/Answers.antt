use Rattle.std.proofs.Common.{sym, subst}
use Rattle.kernel_code.specs.declared.syntax.KExpr.{Width}
use Rattle.kernel_code.specs.Meaning.{width_of}
use Rattle.simplifier.specs.Folded.{SimpleExpr}
use Rattle.simplifier.proofs.Equations.{simple_width}
use Rattle.simplifier.proofs.ExprLemmas.{found, same_number_width}
use Rattle.simplifier.proofs.exprs.fold_width.Goals as goal

pub returns-in-Some-clause-same : goal.returns-in-Some-clause-same
returns-in-Some-clause-same c =
    same_number_width c.args.e c.in-Some.n (found width_of c.args.e _ _ c.in-Some.ensures c.number.ensures)

pub returns-in_ok-e-in-None-clause-folded : goal.returns-in_ok-e-in-None-clause-folded
returns-in_ok-e-in-None-clause-folded c =
    let open_yet = found width_of c.args.e _ _ c.in-None.ensures c.number.ensures in
    λ inner. subst (λ e. SimpleExpr (Width e)) (sym c.in_ok-e-in-None.ensures) (simple_width c.args.e open_yet inner)
