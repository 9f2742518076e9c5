use Rattle.std.specs.Prelude.{◌≡◌, ◌+◌, ℕ, List, replicate, slice_index}
use Rattle.level_rows.specs.Rows.{rows_at}
use Rattle.level_rows.proofs.AppendLoop.{Filling}
use Rattle.level_rows.proofs.runs.append_firsts.Given as goal

abbrev pub invariant-loop-word : goal.invariant-loop-word
invariant-loop-word g l =
    ((positions : List ℕ)
    × Filling g.L.LevelKind.meaning l.parents (l.word-index + 1) (g.L.Append.spare l.level) l.at
    (rows_at (g.R.SortedRows.keys l._rows) (replicate (g.R.SortedRows.keys l._rows).count 0)) positions l.fn.level l.level)
    × (l.before ≡ slice_index l.column l.word-index)
