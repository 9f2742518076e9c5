use Rattle.std.specs.Prelude.{◌≤◌, ◌<◌, replicate, refl}
use Rattle.std.proofs.Common.{arith}
use Rattle.limits.specs.Limits.{greatest_position_count}
use Rattle.level_rows.specs.Runs.{run_numbers}
use Rattle.level_rows.proofs.FirstRows.{firsts, needed_begun, filled_begun}
use Rattle.level_rows.proofs.RunNumbers.{runs_begun}
use Rattle.level_rows.proofs.runs.fill_runs.Goals as goal

pub returns-then-count-greatest_positions : goal.returns-then-count-greatest_positions
returns-then-count-greatest_positions g c =
    let keys = g.R.SortedRows.keys c.args.rows.now in
    let is = runs_begun keys c.args.column.now c.runs_in-count.result c.requires.runs c.requires.column.long c.runs_in-count.ensures in
    let many : greatest_position_count < c.runs_in-count.result =
    let test = c.if-count-greatest_positions.true in let limit = c.greatest_positions.ensures in omega (arith, test, limit) in (
      c.runs_in-count.result,
      c.runs_in-count.result,
      replicate keys.count 0,
      needed_begun g.L.LevelKind.meaning c.args.parents c.runs_in-count.result (firsts keys) c.args.level.now is c.requires.append,
      (many, refl, refl, refl),
      tt,
    )

pub append_firsts-requires-clause-most : goal.append_firsts-requires-clause-most
append_firsts-requires-clause-most g c =
    runs_begun (g.R.SortedRows.keys c.args.rows.now) c.args.column.now c.runs_in-count.result c.requires.runs c.requires.column.long
    c.runs_in-count.ensures

pub returns-in-Ok : goal.returns-in-Ok
returns-in-Ok g c =
    let keys = g.R.SortedRows.keys c.args.rows.now in
    let is = runs_begun keys c.args.column.now c.runs_in-count.result c.requires.runs c.requires.column.long c.runs_in-count.ensures in
    let few : c.runs_in-count.result ≤ greatest_position_count =
    let test = c.if-count-greatest_positions.false in let limit = c.greatest_positions.ensures in omega (arith, test, limit) in (
      c.runs_in-count.result,
      c.runs_in-count.result,
      run_numbers c.args.column.now,
      needed_begun g.L.LevelKind.meaning c.args.parents c.runs_in-count.result (firsts keys) c.args.level.now is c.requires.append,
      filled_begun g.L.LevelKind.meaning c.args.parents c.runs_in-count.result (firsts keys) c.args.level.now is c.requires.append
          (run_numbers c.args.column.now) (replicate keys.count 0) c.append_firsts.new.level few c.in-Ok.ensures.ok,
      refl,
    )

pub returns-in-Err : goal.returns-in-Err
returns-in-Err g c =
    let keys = g.R.SortedRows.keys c.args.rows.now in
    let is = runs_begun keys c.args.column.now c.runs_in-count.result c.requires.runs c.requires.column.long c.runs_in-count.ensures in
    let few : c.runs_in-count.result ≤ greatest_position_count =
    let test = c.if-count-greatest_positions.false in let limit = c.greatest_positions.ensures in omega (arith, test, limit) in (
      c.runs_in-count.result,
      c.runs_in-count.result,
      replicate keys.count 0,
      needed_begun g.L.LevelKind.meaning c.args.parents c.runs_in-count.result (firsts keys) c.args.level.now is c.requires.append,
      (few, c.in-Err.ensures.err, refl),
      tt,
    )
