use Rattle.std.specs.Prelude.{ℕ, List, OnOk, IfErr}
use Rattle.std.proofs.Common.{subst}
use Rattle.outside.specs.Sink.{Appends}
use Rattle.text_lines.specs.Puts.{AppendsPart}
use Rattle.refusals.specs.Lines.{no_minus_text}
use Rattle.refusals.proofs.line.put_no_minus.Goals as goal

pub returns-clause-whole : goal.returns-clause-whole
returns-clause-whole g c =
    subst (λ (name : List ℕ). OnOk c.put_pieces.result (Appends (g.S.Sink.state c.args.sink.now) (g.S.Sink.state c.put_pieces.new.sink)
    (no_minus_text name))) c.as_bytes.ensures.value c.put_pieces.ensures.whole

pub returns-clause-part : goal.returns-clause-part
returns-clause-part g c =
    subst (λ (name : List ℕ). IfErr c.put_pieces.result (AppendsPart (g.S.Sink.state c.args.sink.now)
    (g.S.Sink.state c.put_pieces.new.sink) (no_minus_text name))) c.as_bytes.ensures.value c.put_pieces.ensures.part
