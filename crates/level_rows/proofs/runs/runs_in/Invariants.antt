use Rattle.std.specs.Prelude.{◌≡◌, suc, slice_index}
use Rattle.level_rows.specs.Rows.{begun}
use Rattle.level_rows.specs.Runs.{begins_run}
use Rattle.level_rows.proofs.runs.runs_in.Given as goal

abbrev pub invariant-loop-word : goal.invariant-loop-word
invariant-loop-word l = (l.runs ≡ begun (begins_run l.column) (suc l.word-index)) × (l.before ≡ slice_index l.column l.word-index)
