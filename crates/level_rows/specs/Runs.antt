-- Runs of a column: rows that follow one another with one coordinate there.
use Rattle.std.specs.Prelude.{◌≡◌, ℕ, zero, suc, ◌<◌, ◌==◌, not, Bool, true, false, List, length, map, slice_index}
use Rattle.std.specs.List.{range_with_len}
use Rattle.level_rows.specs.Rows.{Keys, place}

-- whether a row of the column is the first of a run
abbrev pub begins_run : List ℕ → ℕ → Bool
begins_run column zero = true
begins_run column (suc i) = not (slice_index column i == slice_index column (suc i))

-- of each row the number of its run, counted from 0
abbrev pub run_numbers : List ℕ → List ℕ
run_numbers column = map (place (begins_run column)) (range_with_len 0 (length column))

-- the rows that begin positions are those that begin runs of the column
abbrev pub AreRuns : Keys → List ℕ → Type 0
AreRuns keys column = (i : ℕ) → i < keys.count → keys.first i ≡ begins_run column i

-- the positions of rows that a column tells: the numbers of its runs, where these are counted, or what stands in it
abbrev pub told_by : Bool → List ℕ → List ℕ
told_by true column = run_numbers column
told_by false column = column
