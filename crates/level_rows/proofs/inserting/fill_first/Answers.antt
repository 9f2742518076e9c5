use Rattle.std.specs.Prelude.{◌*◌, ◌<◌, ◌≤◌, replicate, refl}
use Rattle.std.proofs.Common.{arith}
use Rattle.limits.specs.Limits.{greatest_position_count}
use Rattle.level_rows.proofs.FullLoop.{first_needed, first_filled}
use Rattle.level_rows.proofs.inserting.fill_first.Goals as goal

pub returns-then-positions-greatest_positions : goal.returns-then-positions-greatest_positions
returns-then-positions-greatest_positions g c =
    let keys = g.R.SortedRows.keys c.args._rows.now in
    let many : greatest_position_count < c.args.parents * c.args.size =
    let test = c.if-positions-greatest_positions.true in let limit = c.greatest_positions.ensures in omega (arith, test, limit) in (
      c.args.parents * c.args.size,
      0,
      replicate keys.count 0,
      first_needed g.L.LevelKind.meaning g.met.L.LevelKind.laws c.args.parents c.args.size keys c.args.level.now c.requires.full
          c.requires.size c.requires.rows,
      (many, refl, refl, refl),
      tt,
    )

pub returns-in-Ok : goal.returns-in-Ok
returns-in-Ok g c =
    let keys = g.R.SortedRows.keys c.args._rows.now in
    let few : c.args.parents * c.args.size ≤ greatest_position_count =
    let test = c.if-positions-greatest_positions.false in let limit = c.greatest_positions.ensures in omega (arith, test, limit) in (
      c.args.parents * c.args.size,
      0,
      c.args._column.now,
      first_needed g.L.LevelKind.meaning g.met.L.LevelKind.laws c.args.parents c.args.size keys c.args.level.now c.requires.full
          c.requires.size c.requires.rows,
      (
        few,
        refl,
        first_filled g.L.LevelKind.meaning g.met.L.LevelKind.laws c.args.parents c.args.size keys c.args.level.now c.requires.full
            c.requires.size c.requires.rows c.args._column.now c.prepare.new.self c.requires.column c.tell_rules.ensures few
            c.in-Ok.ensures.ok,
      ),
      refl,
    )

pub returns-in-Err : goal.returns-in-Err
returns-in-Err g c =
    let keys = g.R.SortedRows.keys c.args._rows.now in
    let few : c.args.parents * c.args.size ≤ greatest_position_count =
    let test = c.if-positions-greatest_positions.false in let limit = c.greatest_positions.ensures in omega (arith, test, limit) in (
      c.args.parents * c.args.size,
      0,
      replicate keys.count 0,
      first_needed g.L.LevelKind.meaning g.met.L.LevelKind.laws c.args.parents c.args.size keys c.args.level.now c.requires.full
          c.requires.size c.requires.rows,
      (few, c.in-Err.ensures.err, refl),
      tt,
    )
