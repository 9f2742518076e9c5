use Rattle.std.proofs.Common.{slice_index}
use Rattle.level_rows.specs.Values.{StoresValues}
use Rattle.level_rows.proofs.values.store_values.Given as goal

abbrev pub invariant-loop-row : goal.invariant-loop-row
invariant-loop-row g l = StoresValues l.row (slice_index l.positions) (g.R.RowValues.values l.rows) l.fn.values l.values
