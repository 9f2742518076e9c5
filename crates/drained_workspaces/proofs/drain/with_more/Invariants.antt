use Rattle.std.specs.Prelude.{◌≡◌, ◌++◌}
use Rattle.std.specs.List.{range_with_len}
use Rattle.drained_workspaces.proofs.drain.with_more.Given as goal

abbrev pub invariant-loop-n : goal.invariant-loop-n
invariant-loop-n l = l.list ≡ l.variables ++ range_with_len l.first l.n
