use Rattle.std.proofs.Common.{subst}
use Rattle.jump_threading.specs.Alike.{DoesAlike}
use Rattle.jump_threading.proofs.CodeLemmas.{alike_then, kernel_alike}
use Rattle.jump_threading.proofs.kernels.thread_choices.Goals as goal

pub returns : goal.returns
returns c =
    let led = c.in_ok-led.led in
    let new = c.in_ok-threaded.threaded in
    let held = c.as_slice.result.now in
    kernel_alike c.args.kernel held new c.as_slice.ensures
    (alike_then new led held (subst (DoesAlike new) c.as_slice-2.ensures c.in_ok-threaded.ensures) c.in_ok-led.ensures)
