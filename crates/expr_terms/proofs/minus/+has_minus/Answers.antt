use Rattle.std.specs.Prelude.{◌||◌}
use Rattle.std.proofs.Common.{◌∙◌, sym, ap}
use Rattle.expr_terms.specs.Minus.{has_minus}
use Rattle.expr_terms.proofs.Meanings.{has_minus_binary}
use Rattle.expr_terms.proofs.Made.{either_first, either_second}
use Rattle.expr_terms.proofs.minus.+has_minus.Goals as goal

pub returns-then-is_minus : goal.returns-then-is_minus
returns-then-is_minus t c =
    ap (λ b. b || (has_minus c.in-Binary.first || has_minus c.in-Binary.second)) (sym c.if-is_minus.true ∙ c.is_minus.ensures)
    ∙ sym (has_minus_binary c.in-Binary.operator c.in-Binary.first c.in-Binary.second) ∙ ap has_minus (sym c.in-Binary.is)

pub returns-then-has_minus : goal.returns-then-has_minus
returns-then-has_minus t c =
    either_first _ (has_minus c.in-Binary.first) (has_minus c.in-Binary.second) (c.has_minus.ensures ∙ ap has_minus c.get.ensures)
    c.if-has_minus.true
    ∙ ap (λ b. b || (has_minus c.in-Binary.first || has_minus c.in-Binary.second)) (sym c.if-is_minus.false ∙ c.is_minus.ensures)
    ∙ sym (has_minus_binary c.in-Binary.operator c.in-Binary.first c.in-Binary.second) ∙ ap has_minus (sym c.in-Binary.is)

pub returns-else-has_minus : goal.returns-else-has_minus
returns-else-has_minus t c =
    either_second c.has_minus.result _ (has_minus c.in-Binary.first) (has_minus c.in-Binary.second)
    (c.has_minus.ensures ∙ ap has_minus c.get.ensures) c.if-has_minus.false
    (c.has_minus-else-has_minus.ensures ∙ ap has_minus c.get-else-has_minus.ensures)
    ∙ ap (λ b. b || (has_minus c.in-Binary.first || has_minus c.in-Binary.second)) (sym c.if-is_minus.false ∙ c.is_minus.ensures)
    ∙ sym (has_minus_binary c.in-Binary.operator c.in-Binary.first c.in-Binary.second) ∙ ap has_minus (sym c.in-Binary.is)
