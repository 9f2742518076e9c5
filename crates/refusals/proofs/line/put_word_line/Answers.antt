use Rattle.std.specs.Prelude.{IfErr}
use Rattle.std.proofs.Common.{subst, sym}
use Rattle.text_lines.specs.Puts.{AppendsPart}
use Rattle.bindings.specs.declared.fault.WordFault.{WordFault}
use Rattle.refusals.specs.Lines.{word_line}
use Rattle.refusals.proofs.line.put_word_line.Goals as goal

pub returns-in-Twice-clause-part : goal.returns-in-Twice-clause-part
returns-in-Twice-clause-part g c =
    let put = c.put_of_word-in-Twice in
    subst (λ (why : WordFault). IfErr put.result
    (AppendsPart (g.S.Sink.state c.args.sink.now) (g.S.Sink.state put.new.sink) (word_line c.args.word why)))
    (sym c.in-Twice.is) put.ensures.part
