use Rattle.std.proofs.Common.{◌∙◌, ap, sym}
use Rattle.taco_top.specs.Values.{values_of}
use Rattle.taco_top.proofs.Executes.{exec_stopped}
use Rattle.taco_top.proofs.executing.execute.Goals as goal

pub execute_over-requires-clause-over : goal.execute_over-requires-clause-over
execute_over-requires-clause-over g c = ap values_of (sym c.over_of.ensures ∙ c.in-Ring.is)

pub execute_over-requires-clause-read : goal.execute_over-requires-clause-read
execute_over-requires-clause-read g c = (g.F.Folder.state c.args.files.now, c.in-Ok.ensures.kernel)

pub returns-in-Ring : goal.returns-in-Ring
returns-in-Ring g c = λ words asks.
    c.execute_over.ensures words (g.F.Folder.state c.args.files.now) asks c.in-Ok.ensures.kernel

pub execute_over-requires-in-MinPlus-clause-over : goal.execute_over-requires-in-MinPlus-clause-over
execute_over-requires-in-MinPlus-clause-over g c = ap values_of (sym c.over_of.ensures ∙ c.in-MinPlus.is)

pub execute_over-requires-in-MinPlus-clause-read : goal.execute_over-requires-in-MinPlus-clause-read
execute_over-requires-in-MinPlus-clause-read g c = (g.F.Folder.state c.args.files.now, c.in-Ok.ensures.kernel)

pub returns-in-MinPlus : goal.returns-in-MinPlus
returns-in-MinPlus g c = λ words asks.
    c.execute_over-in-MinPlus.ensures words (g.F.Folder.state c.args.files.now) asks c.in-Ok.ensures.kernel

pub execute_over-requires-in-Bits-clause-over : goal.execute_over-requires-in-Bits-clause-over
execute_over-requires-in-Bits-clause-over g c = ap values_of (sym c.over_of.ensures ∙ c.in-Bits.is)

pub execute_over-requires-in-Bits-clause-read : goal.execute_over-requires-in-Bits-clause-read
execute_over-requires-in-Bits-clause-read g c = (g.F.Folder.state c.args.files.now, c.in-Ok.ensures.kernel)

pub returns : goal.returns
returns g c = λ words asks.
    c.execute_over-in-Bits.ensures words (g.F.Folder.state c.args.files.now) asks c.in-Ok.ensures.kernel

pub returns-in-Err : goal.returns-in-Err
returns-in-Err g c = λ words asks.
    exec_stopped words (g.F.Folder.state c.args.files.now) (g.F.Folder.state c.read_kernel.new.files) (g.O.Sink.state c.args.out.now)
    c.in-Err.fault c.in-Err.ensures.only_reads (c.in-Err.ensures.stops words asks)
