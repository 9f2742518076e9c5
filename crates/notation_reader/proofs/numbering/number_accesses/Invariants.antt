use Rattle.std.proofs.Common.{◌≡◌, take, map}
use Rattle.index_notation.specs.Numbering.{numbered}
use Rattle.notation_reader.proofs.numbering.number_accesses.Given as goal

abbrev pub invariant-loop-access : goal.invariant-loop-access
invariant-loop-access l = l.found ≡ map (numbered l.tensors l.vars) (take l.access-index l.accesses)
