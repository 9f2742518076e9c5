use Rattle.std.specs.Prelude.{◌≡◌, map, take}
use Rattle.index_notation.specs.declared.syntax.Access.{Access}
use Rattle.taco_compiler.proofs.starts.tensors_of.Given as goal

-- the tensors so far
abbrev pub invariant-loop-access : goal.invariant-loop-access
invariant-loop-access l = l.tensors ≡ map (λ (a : Access). a.tensor) (take l.access-index l.accesses)
