use Rattle.std.proofs.Common.{◌∙◌, sym, ap}
use Rattle.nested_sums.specs.Pieces.{is_whole}
use Rattle.nested_sums.proofs.PieceEquations.{whole_binary, whole_neg, not_first, both_tell}
use Rattle.nested_sums.proofs.opening.+is_whole.Goals as goal

pub returns-then-is_whole : goal.returns-then-is_whole
returns-then-is_whole t c =
    let has = is_whole c.args.opened.now in
    both_tell c.is_whole.result _ (has c.in-Binary.first) (has c.in-Binary.second) (c.is_whole.ensures ∙ ap has c.get.ensures)
    c.if-is_whole.true (c.is_whole-then-is_whole.ensures ∙ ap has c.get-then-is_whole.ensures)
    ∙ sym (whole_binary c.args.opened.now c.in-Binary.field-0 c.in-Binary.first c.in-Binary.second)
    ∙ ap has (sym c.in-Binary.is)

pub returns-else-is_whole : goal.returns-else-is_whole
returns-else-is_whole t c =
    let has = is_whole c.args.opened.now in
    not_first _ (has c.in-Binary.first) (has c.in-Binary.second) (c.is_whole.ensures ∙ ap has c.get.ensures) c.if-is_whole.false
    ∙ sym (whole_binary c.args.opened.now c.in-Binary.field-0 c.in-Binary.first c.in-Binary.second)
    ∙ ap has (sym c.in-Binary.is)

pub returns-in-Neg : goal.returns-in-Neg
returns-in-Neg t c =
    let has = is_whole c.args.opened.now in
    c.is_whole-in-Neg.ensures ∙ ap has c.get-in-Neg.ensures ∙ sym (whole_neg c.args.opened.now c.in-Neg.inner) ∙ ap has (sym c.in-Neg.is)
