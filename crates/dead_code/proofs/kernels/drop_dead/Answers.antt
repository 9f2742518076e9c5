use Rattle.std.proofs.Common.{refl, subst}
use Rattle.dead_code.specs.Follows.{Follows}
use Rattle.dead_code.specs.Live.{Agree}
use Rattle.dead_code.proofs.Whole.{kernel_follows}
use Rattle.dead_code.proofs.kernels.drop_dead.Goals as goal

pub returns : goal.returns
returns c =
    let old = c.args.kernel in
    kernel_follows (Agree c.live_code.new.live) (Agree c.in_ok-live.live) old c.in_ok-left.left (record { at = λ x k. refl })
    (subst (λ code. Follows (Agree c.live_code.new.live) code c.in_ok-left.left (Agree c.in_ok-live.live)) c.as_slice-2.ensures
    c.in_ok-left.ensures)
