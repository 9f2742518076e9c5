use Rattle.std.proofs.Common.{◌≡◌}
use Rattle.dead_code.specs.Gathers.{Gathers, last_of}
use Rattle.dead_code.proofs.operands.gather.Given as goal

abbrev pub invariant-loop-n : goal.invariant-loop-n
invariant-loop-n l = record {
  taken : l.operands.taken ≡ l.n;
  gathers : Gathers l.live (last_of l.n l.before) l.e l.f l.operands.first l.operands.second;
}
