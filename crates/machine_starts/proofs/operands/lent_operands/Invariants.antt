use Rattle.std.proofs.Common.{◌≡◌, map, take}
use Rattle.machine_starts.specs.Lending.{lent_of, parts_of}
use Rattle.machine_starts.proofs.operands.lent_operands.Given as goal

-- the tensors so far are lent
abbrev pub invariant-loop-tensor : goal.invariant-loop-tensor
invariant-loop-tensor l = map lent_of l.operands.items ≡ map parts_of (take l.tensor-index l.tensors)
