use Rattle.std.proofs.lemmas.List.{take_rest}
use Rattle.text_lines.proofs.Parts.{place_missed}
use Rattle.text_lines.specs.TokenLaws.{is_filled}
use Rattle.text_lines.proofs.TokenLaws.{token_cut, tokens_none}
use Rattle.text_lines.proofs.cuts.cut_token.Goals as goal

pub returns-in-None : goal.returns-in-None
returns-in-None c = tokens_none c.args.line.now (place_missed is_filled c.args.line.now c.in-None.ensures)

pub returns-in-Some : goal.returns-in-Some
returns-in-Some c =
    token_cut c.args.line.now _ _ _ c.in-Some.start _ _ c.in-Some.ensures (take_rest c.args.line.now c.in-Some.start)
    c.first_blank.ensures c.unwrap_or-end.ensures c.split_at.ensures.front c.split_at.ensures.back
