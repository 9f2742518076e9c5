use Rattle.std.specs.Prelude.{◌≤◌, ◌<◌, length, refl}
use Rattle.std.specs.List.{range_with_len}
use Rattle.std.proofs.Common.{arith}
use Rattle.limits.specs.Limits.{greatest_position_count}
use Rattle.level_rows.specs.Rows.{rows_at}
use Rattle.level_rows.specs.Filling.{places_once}
use Rattle.level_rows.proofs.OwnNumbers.{needed_there, filled_there}
use Rattle.level_rows.proofs.numbering.fill_once.Goals as goal

pub returns-then-count-greatest_positions : goal.returns-then-count-greatest_positions
returns-then-count-greatest_positions g c =
    let rows = rows_at (g.R.SortedRows.keys c.args.rows.now) (places_once c.args.each (g.R.SortedRows.keys c.args.rows.now).count) in
    let many : greatest_position_count < length c.args.column.now =
    let test = c.if-count-greatest_positions.true in let limit = c.greatest_positions.ensures in omega (arith, test, limit) in (
      length c.args.column.now,
      length c.args.column.now,
      (places_once c.args.each (g.R.SortedRows.keys c.args.rows.now).count),
      needed_there g.L.LevelKind.meaning c.args.parents (length c.args.column.now) rows c.args.level.now c.requires.column.long
          c.requires.all
          c.requires.append,
      (many, refl, refl, refl),
    )

pub append_once-requires-clause-most : goal.append_once-requires-clause-most
append_once-requires-clause-most g c = c.requires.column.long

pub returns-in-Ok : goal.returns-in-Ok
returns-in-Ok g c =
    let rows = rows_at (g.R.SortedRows.keys c.args.rows.now) (places_once c.args.each (g.R.SortedRows.keys c.args.rows.now).count) in
    let few : length c.args.column.now ≤ greatest_position_count =
    let test = c.if-count-greatest_positions.false in let limit = c.greatest_positions.ensures in omega (arith, test, limit) in
    let filled = c.in-Ok.ensures.ok in (
      length c.args.column.now,
      length c.args.column.now,
      range_with_len 0 (g.R.SortedRows.keys c.args.rows.now).count,
      needed_there g.L.LevelKind.meaning c.args.parents (length c.args.column.now) rows c.args.level.now c.requires.column.long
          c.requires.all
          c.requires.append,
      filled_there g.L.LevelKind.meaning c.args.parents (length c.args.column.now) rows c.args.level.now c.requires.column.long
          c.requires.all
          c.requires.append (range_with_len 0 (g.R.SortedRows.keys c.args.rows.now).count) (places_once c.args.each (g.R.SortedRows.keys
          c.args.rows.now).count) c.append_once.new.level few filled,
    )

pub returns-in-Err : goal.returns-in-Err
returns-in-Err g c =
    let few : length c.args.column.now ≤ greatest_position_count =
    let test = c.if-count-greatest_positions.false in let limit = c.greatest_positions.ensures in omega (arith, test, limit) in (
      length c.args.column.now,
      length c.args.column.now,
      (places_once c.args.each (g.R.SortedRows.keys c.args.rows.now).count),
      needed_there g.L.LevelKind.meaning c.args.parents (length c.args.column.now)
          (rows_at (g.R.SortedRows.keys c.args.rows.now) (places_once c.args.each (g.R.SortedRows.keys c.args.rows.now).count))
          c.args.level.now c.requires.column.long c.requires.all
          c.requires.append,
      (few, c.in-Err.ensures.err, refl),
    )
