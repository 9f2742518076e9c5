use Rattle.std.specs.Prelude.{ℕ, Bool, not, ◌&&◌, ◌++◌, ◌∷◌, []}
use Rattle.std.specs.List.{list_any}
use Rattle.std.proofs.Common.{◌∙◌, sym, ap}
use Rattle.expr_terms.specs.Terms.{contains}
use Rattle.expr_terms.proofs.SetPoint.{next_passes, next_fails}
use Rattle.nested_sums.specs.Multiplied.{lacking, is_unit}
use Rattle.nested_sums.specs.Pieces.{Piece}
use Rattle.nested_sums.proofs.units.missing.Goals as goal
use Rattle.nested_sums.proofs.units.missing.Goals.{then-is_missing+in_ok-push, else-is_missing}

pub loop-var-preserved : goal.loop-var-preserved
loop-var-preserved c =
    let test : ℕ → Bool = λ v. list_any (λ (piece : Piece). contains (lacking c.args.accesses.now piece) v) c.args.pieces.now
    && not (list_any (is_unit c.args.one v) c.args.kept.now) in
    let var : ℕ = c.loop-var.var in
    elim c.if-is_missing.branch [
      | then-is_missing+in_ok-push w ↦ w.list-is ∙ w.in_ok-push.ensures.ok ∙ ap (λ ns. ns ++ var ∷ []) c.loop-var.invariant
          ∙ sym (next_passes test var (sym c.is_missing.ensures ∙ w.if-is_missing.true))
      | else-is_missing w ↦ w.list-is ∙ c.loop-var.invariant ∙ sym (next_fails test var (sym c.is_missing.ensures ∙ w.if-is_missing.false))
    ]
