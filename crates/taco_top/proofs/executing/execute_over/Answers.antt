use Rattle.operand_files.proofs.RowLaws.{only_reads_trans}
use Rattle.taco_top.proofs.Executes.{exec_stopped}
use Rattle.taco_top.proofs.executing.execute_over.Goals as goal

pub write_ready-requires : goal.write_ready-requires
write_ready-requires g c =
    (c.requires.asked.0, c.requires.read.0, c.in-Ok.ensures.ready c.requires.asked.0 c.requires.read.0 c.requires.asked.1 c.requires.read.1)

pub returns-in-Ok : goal.returns-in-Ok
returns-in-Ok g c = λ words before asks has_kernel.
    c.write_ready.ensures words before
    (only_reads_trans before (g.F.Folder.state c.args.files.now) (g.F.Folder.state c.run_kernel.new.files) has_kernel.only_reads
    c.in-Ok.ensures.only_reads)
    (c.in-Ok.ensures.ready words before asks has_kernel)

pub returns-in-Err : goal.returns-in-Err
returns-in-Err g c = λ words before asks has_kernel.
    exec_stopped words before (g.F.Folder.state c.run_kernel.new.files) (g.O.Sink.state c.args.out.now) c.in-Err.fault
    (only_reads_trans before (g.F.Folder.state c.args.files.now) (g.F.Folder.state c.run_kernel.new.files) has_kernel.only_reads
    c.in-Err.ensures.only_reads)
    (c.in-Err.ensures.stops words before asks has_kernel)
