use Rattle.level_rows.specs.Rows.{rows_at}
use Rattle.level_rows.proofs.Tallies.{Tallying}
use Rattle.level_rows.proofs.counting.greatest_below.Given as goal

abbrev pub invariant-loop-row : goal.invariant-loop-row
invariant-loop-row g l = Tallying (rows_at (g.R.SortedRows.keys l.rows) l.parents) l.row l.at.last l.at.here l.at.most
