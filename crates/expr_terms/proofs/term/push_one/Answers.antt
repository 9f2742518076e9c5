use Rattle.std.specs.Prelude.{◌≡◌, List, OnOk}
use Rattle.std.proofs.Common.{subst}
use Rattle.expr_terms.specs.Terms.{Term}
use Rattle.expr_terms.proofs.PushedTerms.{pushed_one}
use Rattle.expr_terms.proofs.term.push_one.Goals as goal

pub returns : goal.returns
returns c =
    subst (λ (list : List Term). OnOk c.push.result (c.push.new.self ≡ list))
    (pushed_one c.args.negated c.args.expr.now c.in_ok-expr.expr c.args.list.now c.requires c.in_ok-expr.ensures)
    c.push.ensures.ok
