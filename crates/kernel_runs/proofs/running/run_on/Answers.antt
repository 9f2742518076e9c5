use Rattle.std.proofs.Common.{sym, subst}
use Rattle.kernel_correctness.specs.Kernels.{IsSoundOn}
use Rattle.kernel_machine.specs.Begins.{store_of, IsReadyFor}
use Rattle.kernel_machine.specs.Runs.{HasRun, IsRunRefusal}
use Rattle.kernel_runs.proofs.running.run_on.Goals as goal

pub returns-in-Err : goal.returns-in-Err
returns-in-Err g c =
    c.fault_of.ensures.begin g.S.Semiring.arithmetic c.args.kernel.now
    (store_of c.args.ranges.now c.args.operands.now c.args.format) c.in-Err.ensures

pub run-requires : goal.run-requires
run-requires g c =
    let store = store_of c.args.ranges.now c.args.operands.now c.args.format in
    let ready = c.in-Ok.ensures in (
      store,
      subst (λ k. IsReadyFor g.S.Semiring.arithmetic k store c.in-Ok.prepared) (sym ready.kernel_is) ready,
      subst (λ k. IsSoundOn g.S.Semiring.arithmetic k store) (sym ready.kernel_is) (c.requires.sound ready.few),
    )

pub returns-in-Ok-run : goal.returns-in-Ok-run
returns-in-Ok-run g c =
    let store = store_of c.args.ranges.now c.args.operands.now c.args.format in
    let ready = c.in-Ok.ensures in
    let own = subst (λ k. IsReadyFor g.S.Semiring.arithmetic k store c.in-Ok.prepared) (sym ready.kernel_is) ready in
    record {
      few = ready.few;
      given = own.starts.given;
      is_given = own.starts.is_given;
      has_run = subst (λ k. HasRun g.S.Semiring.arithmetic k store own.starts.given c.in-Ok-run.pair.0 c.in-Ok-run.pair.1) ready.kernel_is
          (c.in-Ok-run.ensures store own);
    }

pub returns-in-Err-run : goal.returns-in-Err-run
returns-in-Err-run g c =
    let store = store_of c.args.ranges.now c.args.operands.now c.args.format in
    let ready = c.in-Ok.ensures in
    let own = subst (λ k. IsReadyFor g.S.Semiring.arithmetic k store c.in-Ok.prepared) (sym ready.kernel_is) ready in
    c.fault_of-in-Err-run.ensures.run g.S.Semiring.arithmetic c.args.kernel.now store own.starts.given ready.few own.starts.is_given
    (subst (λ k. IsRunRefusal g.S.Semiring.arithmetic k store own.starts.given c.in-Err-run.refusal) ready.kernel_is
    (c.in-Err-run.ensures store own))
