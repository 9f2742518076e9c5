use Rattle.std.proofs.Common.{◌∙◌, ap}
use Rattle.taco_top.specs.Values.{semiring}
use Rattle.taco_top.specs.Asked.{writes_result}
use Rattle.taco_top.proofs.Mended.{writing_needs_files, writing_needs_kernel}
use Rattle.taco_top.proofs.Stopped.{stopped, reads_nothing}
use Rattle.taco_top.proofs.top.run.Goals as goal

pub returns-in-Err : goal.returns-in-Err
returns-in-Err g c = λ words asks.
    let over = semiring g.S.Semiring.arithmetic g.S.Semiring.has_minus g.S.Semiring.is_ring g.S.Semiring.is_signed g.S.Semiring.name in
    stopped over words (g.F.Folder.state c.args.files.now) (g.F.Folder.state c.args.files.now) (g.O.Sink.state c.args.out.now)
    c.in-Err.fault (reads_nothing (g.F.Folder.state c.args.files.now))
    (c.in-Err.ensures.refused words asks (g.F.Folder.state c.args.files.now))

pub compute-requires-clause-accepted : goal.compute-requires-clause-accepted
compute-requires-clause-accepted g c = (c.requires.asked.0, c.in-Ok.ensures.accepted c.requires.asked.0 c.requires.asked.1)

pub accept-requires-clause-needs : goal.accept-requires-clause-needs
accept-requires-clause-needs g c = writing_needs_kernel c.args.asked.task c.requires.task

pub compute-requires-clause-reads : goal.compute-requires-clause-reads
compute-requires-clause-reads g c =
    writing_needs_files c.in-Ok.accepted.asked.task (ap writes_result c.in-Ok.ensures.task ∙ c.requires.task)

pub write-requires : goal.write-requires
write-requires g c = (
  c.requires.asked.0,
  c.in-Ok.accepted.asked.task,
  g.F.Folder.state c.args.files.now,
  c.in-Ok-compute.ensures.computed c.requires.asked.0 (c.in-Ok.ensures.accepted c.requires.asked.0 c.requires.asked.1),
)

pub returns-in-Ok-compute : goal.returns-in-Ok-compute
returns-in-Ok-compute g c = λ words asks.
    c.write.ensures words c.in-Ok.accepted.asked.task (g.F.Folder.state c.args.files.now)
    (ap writes_result c.in-Ok.ensures.task ∙ c.requires.task) c.in-Ok-compute.ensures.only_reads
    (c.in-Ok-compute.ensures.computed words (c.in-Ok.ensures.accepted words asks))

pub returns-in-Err-compute : goal.returns-in-Err-compute
returns-in-Err-compute g c = λ words asks.
    let over = semiring g.S.Semiring.arithmetic g.S.Semiring.has_minus g.S.Semiring.is_ring g.S.Semiring.is_signed g.S.Semiring.name in
    stopped over words (g.F.Folder.state c.args.files.now) (g.F.Folder.state c.compute.new.files) (g.O.Sink.state c.args.out.now)
    c.in-Err-compute.fault c.in-Err-compute.ensures.only_reads
    (c.in-Err-compute.ensures.stops words (c.in-Ok.ensures.accepted words asks))
