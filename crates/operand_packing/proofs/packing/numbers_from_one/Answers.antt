use Rattle.std.specs.Prelude.{◌∷◌, ◌++◌, ◌+◌, []}
use Rattle.std.proofs.Common.{◌∙◌, sym, ap}
use Rattle.operand_packing.proofs.Drawing.{next_number}
use Rattle.operand_packing.proofs.packing.numbers_from_one.Goals as goal

pub loop-number-preserved : goal.loop-number-preserved
loop-number-preserved c =
    c.in_ok-push.ensures.items ∙ ap (λ ns. ns ++ (c.loop-number.number + 1) ∷ []) c.loop-number.invariant
    ∙ sym (next_number c.loop-number.number)
