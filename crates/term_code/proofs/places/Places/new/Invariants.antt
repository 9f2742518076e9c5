use Rattle.std.specs.Prelude.{◌≡◌, map, take}
use Rattle.term_code.specs.Places.{new_access}
use Rattle.term_code.proofs.places.Places.new.Given as goal

-- the accesses so far
abbrev pub invariant-loop-tensor : goal.invariant-loop-tensor
invariant-loop-tensor l = l.accesses ≡ map (new_access l.base l.real) (take l.tensor-index l.tensors)
