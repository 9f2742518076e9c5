use Rattle.std.specs.Prelude.{◌+◌, [], ◌∷◌, ◌++◌}
use Rattle.std.proofs.Common.{◌∙◌, sym, ap, subst}
use Rattle.kernel_code.specs.declared.syntax.KExpr.{Num}
use Rattle.kernel_code.specs.declared.syntax.KStmt.{Set}
use Rattle.term_code.specs.Places.{StartsAt}
use Rattle.term_code.proofs.PlaceLaws.{starts}
use Rattle.term_code.proofs.places.at_top.Goals as goal

pub returns : goal.returns
returns c =
    let base = c.args.base in
    subst (StartsAt base) (sym (c.in_ok-push-2.ensures.ok ∙ ap (λ code. code ++ Set (base + 1 + 1) (Num 1) ∷ []) (c.in_ok-push.ensures.ok
    ∙ ap (λ code. code ++ Set (base + 1) (Num 0) ∷ []) c.in_ok-code.ensures))) (starts base)
