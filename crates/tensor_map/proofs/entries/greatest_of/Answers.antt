use Rattle.std.proofs.Common.{◌<◌, sym, ◌∙◌, ap, max, get_or, take, length, arith}
use Rattle.std.proofs.lemmas.List.{take_more}
use Rattle.tensor_map.specs.Entries.{Entry, greatest_in}
use Rattle.tensor_map.proofs.Noted.{greatest_more}
use Rattle.tensor_map.proofs.entries.greatest_of.Goals as goal

pub loop-i-preserved : goal.loop-i-preserved
loop-i-preserved c mode =
    let entry : Entry = record { coords = c.coords-coords.result; value = 0 } in
    let within : c.loop-i.i < length c.args.entries.now.list = omega (arith, c.len-i-end.ensures) in
    c.raise.ensures mode
    ∙ ap (max (get_or c.as_slice.result.now mode 0)) (c.loop-i.invariant mode)
    ∙ ap (λ xs. max (get_or xs mode 0) (greatest_in (take c.loop-i.i c.args.entries.now.list) mode))
    (c.as_slice.ensures.value ∙ c.coords-coords.ensures entry)
    ∙ sym (ap (λ es. greatest_in es mode) (take_more c.args.entries.now.list c.loop-i.i entry within)
    ∙ greatest_more (take c.loop-i.i c.args.entries.now.list) (get_or c.args.entries.now.list c.loop-i.i entry) mode)
