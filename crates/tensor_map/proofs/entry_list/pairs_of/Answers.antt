use Rattle.std.proofs.Common.{◌∙◌, sym, ap, take, ◌∷◌, ◌++◌, [], arith}
use Rattle.std.proofs.lemmas.List.{take_more}
use Rattle.tensor_map.proofs.entry_list.pairs_of.Goals as goal

pub loop-i-preserved : goal.loop-i-preserved
loop-i-preserved c =
    c.in_ok-push.ensures.items
    ∙ ap (λ es. es ++ c.pair.result ∷ []) c.loop-i.invariant
    ∙ ap (λ e. take c.loop-i.i c.args.columns.now.list ++ e ∷ []) (c.pair.ensures c.pair.result)
    ∙ sym (take_more c.args.columns.now.list c.loop-i.i c.pair.result (omega (arith, c.len-i-end.ensures)))
