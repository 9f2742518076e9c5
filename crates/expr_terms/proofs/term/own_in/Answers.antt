use Rattle.std.specs.Prelude.{ℕ, ◌++◌, ◌∷◌, []}
use Rattle.std.proofs.Common.{◌∙◌, sym, ap}
use Rattle.expr_terms.specs.Terms.{is_own}
use Rattle.expr_terms.proofs.SetPoint.{next_passes, next_fails}
use Rattle.expr_terms.proofs.term.own_in.Goals as goal
use Rattle.expr_terms.proofs.term.own_in.Goals.{then-is_own+in_ok-push, else-is_own}

pub loop-var-preserved : goal.loop-var-preserved
loop-var-preserved c =
    let test = is_own c.args.statement.now c.args.expr.now in
    let var : ℕ = c.loop-var.var in
    elim c.if-is_own.branch [
      | then-is_own+in_ok-push w ↦ w.own-is ∙ w.in_ok-push.ensures.ok ∙ ap (λ ns. ns ++ var ∷ []) c.loop-var.invariant
          ∙ sym (next_passes test var (sym c.is_own.ensures ∙ w.if-is_own.true))
      | else-is_own w ↦ w.own-is ∙ c.loop-var.invariant ∙ sym (next_fails test var (sym c.is_own.ensures ∙ w.if-is_own.false))
    ]
