use Rattle.std.specs.Prelude.{[], ◌∷◌, ◌+◌, ◌++◌}
use Rattle.std.specs.List.{range_with_len}
use Rattle.std.proofs.Common.{◌∙◌, sym, ap, add-one}
use Rattle.appended_results.proofs.SinkRows.{range_more}
use Rattle.appended_results.proofs.sink.variables_from.Goals as goal

pub loop-n-preserved : goal.loop-n-preserved
loop-n-preserved c =
    let free = c.args.free in
    let n = c.loop-n.n in
    c.in_ok-push.ensures.ok ∙ ap (λ list. list ++ (free + n) ∷ []) c.loop-n.invariant ∙ sym (range_more free n)
    ∙ ap (range_with_len free) (sym (add-one n))
