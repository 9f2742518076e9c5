use Rattle.std.proofs.Common.{arith}
use Rattle.limits.proofs.Limits.{positions_are_small}
use Rattle.level_rows.proofs.appending.append_run.Goals as goal

pub overflow_add-result : goal.overflow_add-result
overflow_add-result g c =
    let small = positions_are_small in
    let room = c.requires.room in
    let count = c.requires.count in
    omega (arith, small, room, count)
