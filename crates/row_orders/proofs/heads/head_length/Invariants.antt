use Rattle.std.specs.Prelude.{◌≡◌, length, take}
use Rattle.row_orders.specs.Heads.{head_levels}
use Rattle.row_orders.proofs.heads.head_length.Given as goal

-- those among the levels so far
abbrev pub invariant-loop-depth : goal.invariant-loop-depth
invariant-loop-depth l = l.length ≡ length (head_levels (take l.depth l.level-items))
