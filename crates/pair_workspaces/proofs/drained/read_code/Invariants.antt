use Rattle.std.specs.Prelude.{◌≡◌}
use Rattle.pair_workspaces.specs.Codes.{read_code}
use Rattle.pair_workspaces.proofs.drained.read_code.Given as goal

abbrev pub invariant-loop-n : goal.invariant-loop-n
invariant-loop-n l = l.code ≡ read_code l.workspace l.at l.free l.n
