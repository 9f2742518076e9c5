use Rattle.std.proofs.Common.{◌≡◌, ◌∷◌, ◌<◌, false, nat_eq, length, arith, sym, ◌∙◌}
use Rattle.std.proofs.lemmas.Bool.{eqb-false}
use Rattle.text_lines.specs.Lines.{lines}
use Rattle.text_lines.proofs.LineLaws.{line_cut}
use Rattle.text_lines.proofs.cuts.cut_line.Goals as goal

pub returns-clause-first : goal.returns-clause-first
returns-clause-first c =
    let filled : nat_eq (length c.args.text.now) 0 ≡ false = sym c.if-is_empty.ensures in
    let isnt = eqb-false (length c.args.text.now) 0 filled in
    let some : 0 < length c.args.text.now = omega (arith, isnt) in
    line_cut c.args.text.now _ _ _ _ some c.line_feed.ensures c.unwrap_or-end.ensures c.split_at.ensures.front c.split_at.ensures.back
    ∙ (λ i. sym c.without_return.ensures i ∷ lines (sym c.behind_first.ensures i))
