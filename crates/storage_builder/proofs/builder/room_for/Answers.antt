use Rattle.std.specs.Prelude.{refl}
use Rattle.std.proofs.Common.{arith}
use Rattle.limits.proofs.Limits.{some_positions}
use Rattle.storage_builder.proofs.builder.room_for.Goals as goal

pub loop-size-init : goal.loop-size-init
loop-size-init c = (refl, omega (arith, some_positions))
