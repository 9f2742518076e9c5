use Rattle.std.proofs.Common.{◌≡◌, map, take}
use Rattle.kernel_code.specs.Rows.{list_rows}
use Rattle.machine_parts.specs.Rows.{as_row}
use Rattle.machine_parts.proofs.rows.rows_of_list.Given as goal

abbrev pub invariant-loop-i : goal.invariant-loop-i
invariant-loop-i l = map as_row l.rows.items ≡ list_rows (take l.i l.coordinates) (take l.i l.positions)
