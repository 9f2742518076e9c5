use Rattle.std.specs.Prelude.{ℕ, ◌++◌, ◌∷◌, []}
use Rattle.std.proofs.Common.{◌∙◌, sym, ap}
use Rattle.expr_terms.specs.Nested.{is_free}
use Rattle.expr_terms.proofs.SetPoint.{next_passes, next_fails}
use Rattle.expr_terms.proofs.nested.sum_access.Goals as goal
use Rattle.expr_terms.proofs.nested.sum_access.Goals.{then-is_free+in_ok-push, else-is_free}

pub loop-var-preserved : goal.loop-var-preserved
loop-var-preserved c =
    let test = is_free c.args.accesses.now c.args.sum.now in
    let var : ℕ = c.loop-var.var in
    elim c.if-is_free.branch [
      | then-is_free+in_ok-push w ↦ w.free-is ∙ w.in_ok-push.ensures.ok ∙ ap (λ ns. ns ++ var ∷ []) c.loop-var.invariant
          ∙ sym (next_passes test var (sym c.is_free.ensures ∙ w.if-is_free.true))
      | else-is_free w ↦ w.free-is ∙ c.loop-var.invariant ∙ sym (next_fails test var (sym c.is_free.ensures ∙ w.if-is_free.false))
    ]
