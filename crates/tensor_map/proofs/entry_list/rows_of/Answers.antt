use Rattle.std.proofs.Common.{◌≡◌, ◌∙◌, sym, ap, get_or, take, ◌∷◌, ◌++◌, [], arith}
use Rattle.std.proofs.lemmas.List.{take_more}
use Rattle.tensor_map.specs.Entries.{Entry}
use Rattle.tensor_map.proofs.entry_list.rows_of.Goals as goal

pub loop-i-preserved : goal.loop-i-preserved
loop-i-preserved c =
    let entry : Entry = record { coords = c.as_slice.result.now; value = c.value.result } in
    let is : entry ≡ get_or c.args.columns.now.list c.loop-i.i entry =
    λ j. record { coords = (c.as_slice.ensures.value ∙ c.coords-coords.ensures entry) j; value = c.value.ensures entry j } in
    c.in_ok-push.ensures.items
    ∙ ap (λ e. c.loop-i.rows.items ++ e ∷ []) c.new.ensures
    ∙ ap (λ es. es ++ entry ∷ []) c.loop-i.invariant
    ∙ ap (λ e. take c.loop-i.i c.args.columns.now.list ++ e ∷ []) is
    ∙ sym (take_more c.args.columns.now.list c.loop-i.i entry (omega (arith, c.len-i-end.ensures)))
