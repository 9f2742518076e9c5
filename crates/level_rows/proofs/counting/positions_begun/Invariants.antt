use Rattle.std.proofs.Common.{◌≡◌, ◌≤◌}
use Rattle.level_rows.specs.Rows.{begun}
use Rattle.level_rows.proofs.counting.positions_begun.Given as goal

abbrev pub invariant-loop-row : goal.invariant-loop-row
invariant-loop-row g l = record { is : l.begun ≡ begun (g.R.SortedRows.keys l.rows).first l.row; few : l.begun ≤ l.row }
