use Rattle.kernel_code.specs.declared.syntax.KExpr.{Bin}
use Rattle.kernel_code.specs.Meaning.{apply_both}
use Rattle.simplifier.specs.Folded.{SimpleExpr}
use Rattle.simplifier.proofs.Equations.{simple_bin}
use Rattle.simplifier.proofs.ExprLemmas.{built, found_both, same_number_bin}
use Rattle.simplifier.proofs.exprs.fold_binary.Goals as goal

pub returns-in-Some-clause-same : goal.returns-in-Some-clause-same
returns-in-Some-clause-same c =
    same_number_bin c.args.op c.args.a c.args.b c.in-Some.n
    (found_both (apply_both c.args.op) c.args.a c.args.b _ _ _ c.in-Some.ensures c.number.ensures c.number-2.ensures)

pub returns-in-None-clause-folded : goal.returns-in-None-clause-folded
returns-in-None-clause-folded c =
    let open_yet = found_both (apply_both c.args.op) c.args.a c.args.b _ _ _ c.in-None.ensures c.number.ensures c.number-2.ensures in
    λ first second.
    built c.binary.result (Bin c.args.op c.args.a c.args.b) SimpleExpr c.binary.ensures
    (simple_bin c.args.op c.args.a c.args.b open_yet first second)
