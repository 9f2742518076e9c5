use Rattle.std.specs.Prelude.{min}
use Rattle.std.proofs.Common.{sym, subst}
use Rattle.kernel_code.specs.declared.syntax.KExpr.{Min}
use Rattle.kernel_code.specs.Meaning.{apply_each}
use Rattle.simplifier.specs.Folded.{SimpleExpr}
use Rattle.simplifier.proofs.Equations.{simple_min}
use Rattle.simplifier.proofs.ExprLemmas.{found_both, same_number_min}
use Rattle.simplifier.proofs.exprs.fold_least.Goals as goal

pub returns-in-Some-clause-same : goal.returns-in-Some-clause-same
returns-in-Some-clause-same c =
    same_number_min c.args.a c.args.b c.in-Some.n
    (found_both (apply_each min) c.args.a c.args.b _ _ _ c.in-Some.ensures c.number.ensures c.number-2.ensures)

pub returns-in_ok-b-in-None-clause-folded : goal.returns-in_ok-b-in-None-clause-folded
returns-in_ok-b-in-None-clause-folded c =
    let open_yet = found_both (apply_each min) c.args.a c.args.b _ _ _ c.in-None.ensures c.number.ensures c.number-2.ensures in
    λ first second.
    subst (λ a. SimpleExpr (Min a c.in_ok-b-in-None.b)) (sym c.in_ok-a-in-None.ensures)
    (subst (λ b. SimpleExpr (Min c.args.a b)) (sym c.in_ok-b-in-None.ensures)
    (simple_min c.args.a c.args.b open_yet first second))
