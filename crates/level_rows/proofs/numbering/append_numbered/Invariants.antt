use Rattle.std.specs.Prelude.{length, ◌-◌}
use Rattle.level_rows.specs.Rows.{rows_at}
use Rattle.level_rows.specs.Runs.{told_by}
use Rattle.level_rows.proofs.AppendLoop.{Filling}
use Rattle.level_rows.proofs.OwnNumbers.{numbers_to}
use Rattle.level_rows.proofs.RunNumbers.{RunsTo}
use Rattle.level_rows.proofs.numbering.append_numbered.Given as goal

abbrev pub invariant-loop-done : goal.invariant-loop-done
invariant-loop-done g l =
    Filling g.L.LevelKind.meaning l.parents l.done (g.L.Append.spare l.level) l.at
    (rows_at (g.R.SortedRows.keys l._rows) (told_by l.counted l.above)) (numbers_to l.done (told_by l.counted l.above)) l.fn.level l.level
    × RunsTo l.above l.done l.run

abbrev pub decreases-loop-done : goal.decreases-loop-done
decreases-loop-done g l = length l.above - l.done
