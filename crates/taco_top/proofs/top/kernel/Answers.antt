use Rattle.std.proofs.Common.{ap, subst}
use Rattle.taco_top.specs.Asked.{needs_order}
use Rattle.taco_top.specs.Stored.{stored_statement, stored_formats}
use Rattle.taco_top.specs.Told.{IsKernelOf}
use Rattle.taco_top.specs.Values.{semiring}
use Rattle.taco_top.proofs.Stopped.{stopped, reads_nothing}
use Rattle.taco_top.proofs.top.kernel.Goals as goal

pub tell_kernel-requires-clause-accepted : goal.tell_kernel-requires-clause-accepted
tell_kernel-requires-clause-accepted g c = (c.requires.asked.0, c.in-Ok.ensures.accepted c.requires.asked.0 c.requires.asked.1)

pub tell_kernel-requires-clause-kernel : goal.tell_kernel-requires-clause-kernel
tell_kernel-requires-clause-kernel g c =
    let over = semiring g.S.Semiring.arithmetic g.S.Semiring.has_minus g.S.Semiring.is_ring g.S.Semiring.is_signed g.S.Semiring.name in (
      over,
      subst (λ plan. IsKernelOf over (stored_statement c.in-Ok.accepted.asked.statement plan)
          (stored_formats c.in-Ok.accepted.asked.bindings.formats.items plan) c.in-Ok.accepted.compiled.order
          c.in-Ok.accepted.compiled.kernel) (c.in-Ok.ensures.unplanned (ap needs_order c.requires.task)) c.in-Ok.ensures.kernel,
    )

pub returns-in-Ok : goal.returns-in-Ok
returns-in-Ok g c = λ words files asks.
    let over = semiring g.S.Semiring.arithmetic g.S.Semiring.has_minus g.S.Semiring.is_ring g.S.Semiring.is_signed g.S.Semiring.name in
    c.tell_kernel.ensures over words files (c.in-Ok.ensures.accepted words asks)
    (subst (λ plan. IsKernelOf over (stored_statement c.in-Ok.accepted.asked.statement plan)
    (stored_formats c.in-Ok.accepted.asked.bindings.formats.items plan) c.in-Ok.accepted.compiled.order
    c.in-Ok.accepted.compiled.kernel) (c.in-Ok.ensures.unplanned (ap needs_order c.requires.task)) c.in-Ok.ensures.kernel)

pub returns-in-Err : goal.returns-in-Err
returns-in-Err g c = λ words files asks.
    let over = semiring g.S.Semiring.arithmetic g.S.Semiring.has_minus g.S.Semiring.is_ring g.S.Semiring.is_signed g.S.Semiring.name in
    stopped over words files files (g.O.Sink.state c.args.out.now) c.in-Err.fault (reads_nothing files)
    (c.in-Err.ensures.refused words asks files)
