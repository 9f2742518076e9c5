use Rattle.std.specs.Prelude.{[], ◌∷◌, ◌+◌, ◌++◌}
use Rattle.std.specs.List.{range_with_len}
use Rattle.std.proofs.Common.{◌∙◌, sym, ap, add-one}
use Rattle.std.proofs.lemmas.List.{append_assoc}
use Rattle.drained_workspaces.proofs.Prefixes.{range_more}
use Rattle.drained_workspaces.proofs.drain.with_more.Goals as goal

pub loop-n-preserved : goal.loop-n-preserved
loop-n-preserved c =
    let variables = c.args.variables.now in
    let first = c.args.first in
    let n = c.loop-n.n in
    c.in_ok-push.ensures.ok ∙ ap (λ list. list ++ (first + n) ∷ []) c.loop-n.invariant
    ∙ append_assoc variables (range_with_len first n) ((first + n) ∷ [])
    ∙ ap (λ more. variables ++ more) (sym (range_more first n) ∙ ap (range_with_len first) (sym (add-one n)))
