use Rattle.std.proofs.Common.{◌≡◌, ℕ, List, map, take}
use Rattle.kernel_code.specs.Rows.{rows_from}
use Rattle.machine_parts.specs.Rows.{row_of}
use Rattle.machine_parts.proofs.sums.placed_rows.Given as goal

abbrev pub invariant-loop-place : goal.invariant-loop-place
invariant-loop-place l = (columns : List (List ℕ)) → map (row_of columns) l.rows.items ≡ rows_from columns 0 (take l.place l.values)
