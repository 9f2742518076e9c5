use Rattle.std.specs.Prelude.{◌∷◌, ◌++◌, []}
use Rattle.std.proofs.Common.{◌∙◌, ap}
use Rattle.tensor_storage.proofs.Arranging.{next_number}
use Rattle.tensor_storage.proofs.places.own_numbers.Goals as goal

pub loop-number-preserved : goal.loop-number-preserved
loop-number-preserved c = c.in_ok-push.ensures.items ∙ ap (λ ns. ns ++ c.loop-number.number ∷ []) c.loop-number.invariant
    ∙ next_number c.loop-number.number
