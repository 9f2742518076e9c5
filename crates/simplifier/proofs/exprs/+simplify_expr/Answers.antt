use Rattle.std.proofs.Common.{sym}
use Rattle.kernel_code.specs.declared.syntax.KExpr.{At, Bin, Min, Width}
use Rattle.simplifier.specs.Folded.{SimpleExpr}
use Rattle.simplifier.specs.Same.{SameValue}
use Rattle.simplifier.proofs.Equations.{simple_at}
use Rattle.simplifier.proofs.ExprLemmas.{built, same_at, same_bin, same_min, same_now, same_result, same_width}
use Rattle.simplifier.proofs.exprs.+simplify_expr.Goals as goal

pub returns-in_ok-index-in-At-clause-same : goal.returns-in_ok-index-in-At-clause-same
returns-in_ok-index-in-At-clause-same t c =
    let s = c.in-At in
    let new = c.in_ok-index-in-At in
    let same = same_at s.array new.index s.index (same_now _ _ _ new.ensures.same c.get.ensures) in
    built c.word_at.result (At s.array new.index) (λ r. SameValue r c.args.e.now) c.word_at.ensures (same_now _ _ _ same (sym s.is))

pub returns-in_ok-index-in-At-clause-folded : goal.returns-in_ok-index-in-At-clause-folded
returns-in_ok-index-in-At-clause-folded t c =
    let new = c.in_ok-index-in-At in
    built c.word_at.result (At c.in-At.array new.index) SimpleExpr c.word_at.ensures (simple_at c.in-At.array new.index new.ensures.folded)

pub returns-in_ok-b-in-Bin-clause-same : goal.returns-in_ok-b-in-Bin-clause-same
returns-in_ok-b-in-Bin-clause-same t c =
    let s = c.in-Bin in
    let a = c.in_ok-a-in-Bin in
    let b = c.in_ok-b-in-Bin in
    let first = same_now _ _ _ a.ensures.same c.get-in-Bin.ensures in
    let second = same_now _ _ _ b.ensures.same c.get-in-Bin-2.ensures in
    same_result c.fold_binary.result (Bin s.op a.a b.b) c.args.e.now c.fold_binary.ensures.same
    (same_now _ _ _ (same_bin s.op a.a b.b s.a s.b first second) (sym s.is))

pub returns-in_ok-b-in-Min-clause-same : goal.returns-in_ok-b-in-Min-clause-same
returns-in_ok-b-in-Min-clause-same t c =
    let s = c.in-Min in
    let a = c.in_ok-a-in-Min in
    let b = c.in_ok-b-in-Min in
    let first = same_now _ _ _ a.ensures.same c.get-in-Min.ensures in
    let second = same_now _ _ _ b.ensures.same c.get-in-Min-2.ensures in
    same_result c.fold_least.result (Min a.a b.b) c.args.e.now c.fold_least.ensures.same
    (same_now _ _ _ (same_min a.a b.b s.a s.b first second) (sym s.is))

pub returns-in_ok-e-in-Width-clause-same : goal.returns-in_ok-e-in-Width-clause-same
returns-in_ok-e-in-Width-clause-same t c =
    let s = c.in-Width in
    let new = c.in_ok-e-in-Width in
    let same = same_width new.e s.e (same_now _ _ _ new.ensures.same c.get-in-Width.ensures) in
    same_result c.fold_width.result (Width new.e) c.args.e.now c.fold_width.ensures.same (same_now _ _ _ same (sym s.is))
