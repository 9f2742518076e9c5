use Rattle.std.specs.Prelude.{◌≡◌}
use Rattle.pair_workspaces.specs.Codes.{cut_code}
use Rattle.pair_workspaces.proofs.drained.cut_code.Given as goal

abbrev pub invariant-loop-n : goal.invariant-loop-n
invariant-loop-n l = l.code ≡ cut_code l.workspace l.n
