use Rattle.std.proofs.Common.{map, sym, subst}
use Rattle.std.proofs.lemmas.Result.{IfErr-weaker}
use Rattle.text_lines.specs.Puts.{AppendsPart}
use Rattle.text_lines.proofs.PutsLemmas.{part_of_first, part_of_second}
use Rattle.text_lines.specs.Pieces.{joined, piece_text}
use Rattle.text_lines.proofs.pieces.+put_pieces.Goals as goal

pub returns-in-Ok-clause-part : goal.returns-in-Ok-clause-part
returns-in-Ok-clause-part g t c =
    let old = g.S.Sink.state c.args.sink.now in
    let new = g.S.Sink.state c.put_pieces.new.sink in
    let first = piece_text c.in-Some.first.now in
    let rest = joined (map piece_text c.in-Some.others.now) in
    IfErr-weaker c.put_pieces.result _ _ (λ why part. subst (λ pieces. AppendsPart old new (joined (map piece_text pieces)) why)
    (sym c.in-Some.ensures.cases.0)
    (part_of_second old (g.S.Sink.state c.put_piece.new.sink) new first rest why c.in-Ok.ensures.whole part))
    c.put_pieces.ensures.part

pub returns-in-Err-clause-part : goal.returns-in-Err-clause-part
returns-in-Err-clause-part g t c =
    let old = g.S.Sink.state c.args.sink.now in
    let new = g.S.Sink.state c.put_piece.new.sink in
    let first = piece_text c.in-Some.first.now in
    let rest = joined (map piece_text c.in-Some.others.now) in
    subst (λ pieces. AppendsPart old new (joined (map piece_text pieces)) c.in-Err.refusal) (sym c.in-Some.ensures.cases.0)
    (part_of_first old new first rest c.in-Err.refusal c.in-Err.ensures.part)
