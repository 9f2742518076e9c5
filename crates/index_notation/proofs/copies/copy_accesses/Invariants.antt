use Rattle.std.specs.Prelude.{◌≡◌, take}
use Rattle.index_notation.proofs.copies.copy_accesses.Given as goal

abbrev pub invariant-loop-access : goal.invariant-loop-access
invariant-loop-access l = l.copies ≡ take l.access-index l.accesses
