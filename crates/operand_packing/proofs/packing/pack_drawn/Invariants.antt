use Rattle.std.specs.Prelude.{slice_index}
use Rattle.operand_packing.proofs.Steps.{Packing}
use Rattle.operand_packing.proofs.packing.pack_drawn.Given as goal

abbrev pub invariant-loop-number : goal.invariant-loop-number
invariant-loop-number g l =
    Packing g.S.Semiring.arithmetic l.statement l.formats (slice_index l.ranges) l.origins l.initial.operands l.number l.operands
    l.tensors.items
