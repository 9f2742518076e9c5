use Rattle.std.specs.Prelude.{ℕ, List, Option, OnOk, IfErr}
use Rattle.std.proofs.Common.{Bor, subst, sym}
use Rattle.outside.specs.Sink.{Appends}
use Rattle.text_lines.specs.Puts.{AppendsPart}
use Rattle.refusals.specs.Lines.{line_of}
use Rattle.refusals.specs.declared.fault.Fault.TheVariants as fault
use Rattle.refusals.proofs.line.put_write_fault.Goals as goal

pub returns-in-None-clause-part : goal.returns-in-None-clause-part
returns-in-None-clause-part g c =
    subst (λ (path : Option (Bor (List ℕ))). IfErr c.put_all.result
    (AppendsPart (g.S.Sink.state c.args.sink.now) (g.S.Sink.state c.put_all.new.sink) (line_of (fault.WriteFault path))))
    (sym c.in-None.is) c.put_all.ensures.part

pub returns-in-Some-clause-whole : goal.returns-in-Some-clause-whole
returns-in-Some-clause-whole g c =
    subst (λ (path : Option (Bor (List ℕ))). OnOk c.put_of_path.result
    (Appends (g.S.Sink.state c.args.sink.now) (g.S.Sink.state c.put_of_path.new.sink) (line_of (fault.WriteFault path))))
    (sym c.in-Some.is) c.put_of_path.ensures.whole

pub returns-in-Some-clause-part : goal.returns-in-Some-clause-part
returns-in-Some-clause-part g c =
    subst (λ (path : Option (Bor (List ℕ))). IfErr c.put_of_path.result
    (AppendsPart (g.S.Sink.state c.args.sink.now) (g.S.Sink.state c.put_of_path.new.sink) (line_of (fault.WriteFault path))))
    (sym c.in-Some.is) c.put_of_path.ensures.part
