use Rattle.std.proofs.Common.{subst, sym}
use Rattle.command_line.specs.declared.Over.{Over}
use Rattle.taco_top.specs.Ends.{Cause}
use Rattle.taco_top.specs.Prepared.{end_of}
use Rattle.taco_top.specs.Values.{values_of}
use Rattle.taco_top.proofs.top.answer_statement.Goals as goal

pub returns-in-Ring : goal.returns-in-Ring
returns-in-Ring g c = λ words asks.
    subst (λ (o : Over). Cause (values_of o) words (g.F.Folder.state c.args.files.now) (g.F.Folder.state c.answer_over.new.files)
    (g.O.Sink.state c.args.out.now) (g.O.Sink.state c.answer_over.new.out) (end_of c.answer_over.result)) (sym c.in-Ring.is)
    (c.answer_over.ensures words asks)

pub returns-in-MinPlus : goal.returns-in-MinPlus
returns-in-MinPlus g c = λ words asks.
    subst (λ (o : Over). Cause (values_of o) words (g.F.Folder.state c.args.files.now) (g.F.Folder.state c.answer_over-in-MinPlus.new.files)
    (g.O.Sink.state c.args.out.now) (g.O.Sink.state c.answer_over-in-MinPlus.new.out) (end_of c.answer_over-in-MinPlus.result))
    (sym c.in-MinPlus.is)
    (c.answer_over-in-MinPlus.ensures words asks)

pub returns-in-Bits : goal.returns-in-Bits
returns-in-Bits g c = λ words asks.
    subst (λ (o : Over). Cause (values_of o) words (g.F.Folder.state c.args.files.now) (g.F.Folder.state c.answer_over-in-Bits.new.files)
    (g.O.Sink.state c.args.out.now) (g.O.Sink.state c.answer_over-in-Bits.new.out) (end_of c.answer_over-in-Bits.result)) (sym c.in-Bits.is)
    (c.answer_over-in-Bits.ensures words asks)
