use Rattle.level_rows.specs.Rows.{rows_at}
use Rattle.level_rows.proofs.FullLoop.{Counted}
use Rattle.level_rows.proofs.inserting.insert_full.Given as goal

abbrev pub invariant-loop-row : goal.invariant-loop-row
invariant-loop-row g l = Counted l.size l.row (rows_at (g.R.SortedRows.keys l.rows) l.fn.positions) l.positions
