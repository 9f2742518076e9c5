use Rattle.std.specs.Prelude.{◌≡◌, map}
use Rattle.std.specs.List.{range_with_len}
use Rattle.level_rows.specs.Rows.{begun, place}
use Rattle.level_rows.specs.Runs.{begins_run}
use Rattle.tensor_storage.proofs.places.numbers_of_runs.Given as goal

abbrev pub invariant-loop-row : goal.invariant-loop-row
invariant-loop-row l =
    (l.numbers.items ≡ map (place (begins_run l.column)) (range_with_len 0 l.row)) × (l.runs ≡ begun (begins_run l.column) l.row)
