use Rattle.std.specs.Prelude.{IfErr}
use Rattle.std.proofs.Common.{subst, sym}
use Rattle.text_lines.specs.Puts.{AppendsPart}
use Rattle.expr_terms.specs.declared.names.NameFault.{NameFault}
use Rattle.refusals.specs.Lines.{name_line}
use Rattle.refusals.proofs.line.put_name_line.Goals as goal

pub returns-in-ResultRead-clause-part : goal.returns-in-ResultRead-clause-part
returns-in-ResultRead-clause-part g c =
    let put = c.put_of_tensor in
    subst (λ (why : NameFault). IfErr put.result
    (AppendsPart (g.S.Sink.state c.args.sink.now) (g.S.Sink.state put.new.sink) (name_line c.args.statement.now why)))
    (sym c.in-ResultRead.is) put.ensures.part
