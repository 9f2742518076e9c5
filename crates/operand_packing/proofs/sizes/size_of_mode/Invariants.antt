use Rattle.std.proofs.Common.{◌≡◌, max, drop}
use Rattle.std.specs.Prelude.{slice_index}
use Rattle.expr_terms.specs.Ranges.{greatest_of, ranges_at, mode_size}
use Rattle.operand_packing.proofs.sizes.size_of_mode.Given as goal

abbrev pub invariant-loop-access : goal.invariant-loop-access
invariant-loop-access l =
    max l.size (greatest_of (ranges_at (slice_index l.ranges) l.tensor l.mode (drop l.access-index l.statement.accesses))) ≡ mode_size
    l.statement (slice_index l.ranges) l.tensor l.mode
