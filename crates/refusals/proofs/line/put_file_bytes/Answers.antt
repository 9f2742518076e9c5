use Rattle.std.specs.Prelude.{ℕ, List, IfErr}
use Rattle.std.proofs.Common.{subst}
use Rattle.text_lines.specs.Puts.{AppendsPart}
use Rattle.refusals.specs.Lines.{file_bytes_text}
use Rattle.refusals.proofs.line.put_file_bytes.Goals as goal

pub returns-clause-part : goal.returns-clause-part
returns-clause-part g c =
    subst (λ (name : List ℕ). IfErr c.put_pieces.result (AppendsPart (g.S.Sink.state c.args.sink.now)
    (g.S.Sink.state c.put_pieces.new.sink) (file_bytes_text name c.args.limit))) c.as_bytes.ensures.value c.put_pieces.ensures.part
