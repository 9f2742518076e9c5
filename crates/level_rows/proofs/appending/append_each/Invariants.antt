use Rattle.std.proofs.Common.{length, ◌-◌}
use Rattle.level_rows.specs.Rows.{rows_at}
use Rattle.level_rows.proofs.AppendLoop.{Filling}
use Rattle.level_rows.proofs.appending.append_each.Given as goal

abbrev pub invariant-loop-done : goal.invariant-loop-done
invariant-loop-done g l =
    Filling g.L.LevelKind.meaning l.parents l.done (g.L.Append.spare l.level) l.at (rows_at (g.R.SortedRows.keys l.rows) l.fn.positions)
    l.positions l.fn.level l.level

abbrev pub decreases-loop-done : goal.decreases-loop-done
decreases-loop-done g l = length l.initial.positions - l.done
