use Rattle.std.proofs.Common.{◌≡◌, take, map}
use Rattle.resolved_code.specs.Erase.{erase}
use Rattle.resolved_code.proofs.resolving.+resolve.Given as goal

abbrev pub invariant-resolve-loop-s : goal.invariant-resolve-loop-s
invariant-resolve-loop-s l = map erase l.code ≡ take l.s-index l.statements
