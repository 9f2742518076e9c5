use Rattle.std.proofs.Common.{◌∙◌, subst}
use Rattle.taco_top.specs.Values.{semiring}
use Rattle.taco_top.specs.Prepared.{IsPrepared}
use Rattle.taco_top.proofs.Stopped.{stopped, reads_nothing}
use Rattle.taco_top.proofs.top.report.Goals as goal

pub returns-in-Err : goal.returns-in-Err
returns-in-Err g c = λ words asks.
    let over = semiring g.S.Semiring.arithmetic g.S.Semiring.has_minus g.S.Semiring.is_ring g.S.Semiring.is_signed g.S.Semiring.name in
    stopped over words (g.F.Folder.state c.args.files.now) (g.F.Folder.state c.args.files.now) (g.O.Sink.state c.args.out.now)
    c.in-Err.fault (reads_nothing (g.F.Folder.state c.args.files.now))
    (c.in-Err.ensures.refused words asks (g.F.Folder.state c.args.files.now))

pub compute-requires-clause-accepted : goal.compute-requires-clause-accepted
compute-requires-clause-accepted g c = (c.requires.asked.0, c.in-Ok.ensures.accepted c.requires.asked.0 c.requires.asked.1)

pub tell_run-requires : goal.tell_run-requires
tell_run-requires g c = (
  c.requires.asked.0,
  g.F.Folder.state c.args.files.now,
  g.F.Folder.state c.compute.new.files,
  subst (λ t. IsPrepared
      (semiring g.S.Semiring.arithmetic g.S.Semiring.has_minus g.S.Semiring.is_ring g.S.Semiring.is_signed g.S.Semiring.name)
      c.requires.asked.0 t (g.F.Folder.state c.args.files.now) (g.F.Folder.state c.compute.new.files)
      c.in-Ok-compute.computed) (c.in-Ok.ensures.task ∙ c.requires.task)
      (c.in-Ok-compute.ensures.computed c.requires.asked.0 (c.in-Ok.ensures.accepted c.requires.asked.0 c.requires.asked.1)),
)

pub returns-in-Ok-compute : goal.returns-in-Ok-compute
returns-in-Ok-compute g c = λ words asks.
    c.tell_run.ensures words (g.F.Folder.state c.args.files.now) (g.F.Folder.state c.compute.new.files) c.in-Ok-compute.ensures.only_reads
    (subst (λ t. IsPrepared
    (semiring g.S.Semiring.arithmetic g.S.Semiring.has_minus g.S.Semiring.is_ring g.S.Semiring.is_signed g.S.Semiring.name)
    words t (g.F.Folder.state c.args.files.now) (g.F.Folder.state c.compute.new.files) c.in-Ok-compute.computed)
    (c.in-Ok.ensures.task ∙ c.requires.task) (c.in-Ok-compute.ensures.computed words (c.in-Ok.ensures.accepted words asks)))

pub returns-in-Err-compute : goal.returns-in-Err-compute
returns-in-Err-compute g c = λ words asks.
    let over = semiring g.S.Semiring.arithmetic g.S.Semiring.has_minus g.S.Semiring.is_ring g.S.Semiring.is_signed g.S.Semiring.name in
    stopped over words (g.F.Folder.state c.args.files.now) (g.F.Folder.state c.compute.new.files) (g.O.Sink.state c.args.out.now)
    c.in-Err-compute.fault c.in-Err-compute.ensures.only_reads
    (c.in-Err-compute.ensures.stops words (c.in-Ok.ensures.accepted words asks))
