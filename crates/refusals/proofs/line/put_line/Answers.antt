use Rattle.std.specs.Prelude.{OnOk, IfErr}
use Rattle.std.proofs.Common.{subst, sym}
use Rattle.outside.specs.Sink.{Appends}
use Rattle.text_lines.specs.Puts.{AppendsPart}
use Rattle.refusals.specs.Lines.{line_of}
use Rattle.refusals.specs.declared.fault.Fault.{Fault}
use Rattle.refusals.proofs.line.put_line.Goals as goal

pub returns-in-Usage-clause-part : goal.returns-in-Usage-clause-part
returns-in-Usage-clause-part g c =
    subst (λ (why : Fault). IfErr c.put_all.result
    (AppendsPart (g.S.Sink.state c.args.sink.now) (g.S.Sink.state c.put_all.new.sink) (line_of why)))
    (sym c.in-Usage.is) c.put_all.ensures.part

pub returns-in-ReadFault-clause-whole : goal.returns-in-ReadFault-clause-whole
returns-in-ReadFault-clause-whole g c =
    subst (λ (why : Fault). OnOk c.put_of_path.result
    (Appends (g.S.Sink.state c.args.sink.now) (g.S.Sink.state c.put_of_path.new.sink) (line_of why)))
    (sym c.in-ReadFault.is) c.put_of_path.ensures.whole

pub returns-in-ReadFault-clause-part : goal.returns-in-ReadFault-clause-part
returns-in-ReadFault-clause-part g c =
    subst (λ (why : Fault). IfErr c.put_of_path.result
    (AppendsPart (g.S.Sink.state c.args.sink.now) (g.S.Sink.state c.put_of_path.new.sink) (line_of why)))
    (sym c.in-ReadFault.is) c.put_of_path.ensures.part

pub returns-in-WriteFault-clause-whole : goal.returns-in-WriteFault-clause-whole
returns-in-WriteFault-clause-whole g c =
    let put = c.put_write_fault in
    subst (λ (why : Fault). OnOk put.result (Appends (g.S.Sink.state c.args.sink.now) (g.S.Sink.state put.new.sink) (line_of why)))
    (sym c.in-WriteFault.is) put.ensures.whole

pub returns-in-WriteFault-clause-part : goal.returns-in-WriteFault-clause-part
returns-in-WriteFault-clause-part g c =
    let put = c.put_write_fault in
    subst (λ (why : Fault). IfErr put.result (AppendsPart (g.S.Sink.state c.args.sink.now) (g.S.Sink.state put.new.sink) (line_of why)))
    (sym c.in-WriteFault.is) put.ensures.part

pub returns-in-Memory-clause-whole : goal.returns-in-Memory-clause-whole
returns-in-Memory-clause-whole g c =
    let put = c.put_all-in-Memory in
    subst (λ (why : Fault). OnOk put.result (Appends (g.S.Sink.state c.args.sink.now) (g.S.Sink.state put.new.sink) (line_of why)))
    (sym c.in-Memory.is) put.ensures.whole

pub returns-in-Memory-clause-part : goal.returns-in-Memory-clause-part
returns-in-Memory-clause-part g c =
    let put = c.put_all-in-Memory in
    subst (λ (why : Fault). IfErr put.result (AppendsPart (g.S.Sink.state c.args.sink.now) (g.S.Sink.state put.new.sink) (line_of why)))
    (sym c.in-Memory.is) put.ensures.part
