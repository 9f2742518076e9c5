use Rattle.kernel_code.proofs.Does.{does_weaker}
use Rattle.gathered_lists.proofs.Staying.{does_still}
use Rattle.kernel_emit.proofs.ListLaws.{lists_still}
use Rattle.kernel_emit.proofs.beside.BesideListsRowSink.add_row.Goals as goal

pub returns : goal.returns
returns g c = λ setting laws mine ranges rows row takes s vars is held.
    let w = c.args.self.now in
    let code = c.in_ok-code.code in
    does_weaker setting code s _ _ _ _
    (does_still setting code s _ _ (c.in_ok-code.ensures setting laws mine ranges rows row takes s vars is held.0))
    (λ t q. (
      record { below = q.0.0.below; arrays = λ b kept. q.0.0.arrays b kept.0; turns = q.0.0.turns },
      (q.0.1, lists_still w.first w.past s t q.1 held.1),
    ))
    (λ turns b n z. z)
