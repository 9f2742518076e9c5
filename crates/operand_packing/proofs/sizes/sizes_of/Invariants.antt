use Rattle.std.proofs.Common.{◌≡◌, map}
use Rattle.std.specs.Prelude.{slice_index}
use Rattle.index_notation.specs.Statement.{numbers_from}
use Rattle.expr_terms.specs.Ranges.{mode_size}
use Rattle.operand_packing.proofs.sizes.sizes_of.Given as goal

abbrev pub invariant-loop-mode : goal.invariant-loop-mode
invariant-loop-mode l = l.sizes.items ≡ map (mode_size l.statement (slice_index l.ranges) l.tensor) (numbers_from 0 l.mode)
