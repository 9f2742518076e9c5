use Rattle.std.specs.Prelude.{◌≡◌, true, replicate}
use Rattle.std.proofs.Common.{sym, subst}
use Rattle.level_core.specs.Kinds.{capabilities}
use Rattle.level_rows.specs.Rows.{rows_at}
use Rattle.level_rows.specs.Filling.{MayFill}
use Rattle.level_rows.specs.Runs.{run_numbers}
use Rattle.tensor_storage.specs.Levels.{meaning}
use Rattle.tensor_storage.specs.Places.{places_in}
use Rattle.tensor_storage.specs.Tables.{keys_of}
use Rattle.tensor_storage.proofs.PlaceSteps.{column_coords, runs_on_top, zeros_are, filled_answer, refused_answer}
use Rattle.tensor_storage.proofs.packing.fill_shared.Goals as goal

pub fill_runs-requires-clause-append : goal.fill_runs-requires-clause-append
fill_runs-requires-clause-append g c =
    let known = c.takes_runs.ensures c.if-not-takes_runs.false in
    subst (λ k. (capabilities k).append ≡ true) c.letter.ensures known.2

pub fill_runs-requires-clause-rows : goal.fill_runs-requires-clause-rows
fill_runs-requires-clause-rows g c =
    let known = c.takes_runs.ensures c.if-not-takes_runs.false in
    let table = g.T.RowTable.table c.args.rows.now.table.now in
    let keys = keys_of table c.args.rows.now.level c.args.rows.now.through in
    subst (λ ps. MayFill meaning c.args.parents (rows_at keys ps) c.args.stored.now)
    (zeros_are table.count (places_in c.args.places) known.1 c.requires.many) c.requires.rows

pub fill_runs-requires-clause-runs : goal.fill_runs-requires-clause-runs
fill_runs-requires-clause-runs g c =
    let known = c.takes_runs.ensures c.if-not-takes_runs.false in
    runs_on_top (g.T.RowTable.table c.args.rows.now.table.now) c.args.rows.now.level c.args.rows.now.through c.args.column.now known.0
    c.requires.among c.requires.column

pub fill_runs-requires-clause-column : goal.fill_runs-requires-clause-column
fill_runs-requires-clause-column g c =
    column_coords (g.T.RowTable.table c.args.rows.now.table.now) c.args.rows.now.level c.args.rows.now.through c.args.column.now
    c.requires.column

pub fill_runs-requires-clause-some : goal.fill_runs-requires-clause-some
fill_runs-requires-clause-some g c = (c.takes_runs.ensures c.if-not-takes_runs.false).3

pub returns-in-Ok : goal.returns-in-Ok
returns-in-Ok g c =
    let known = c.takes_runs.ensures c.if-not-takes_runs.false in
    let table = g.T.RowTable.table c.args.rows.now.table.now in
    let e = c.in-Ok.ensures in
    filled_answer (keys_of table c.args.rows.now.level c.args.rows.now.through) c.args.parents c.in-Ok.count (replicate table.count 0)
    (places_in c.args.places) e.2 (run_numbers c.args.column.now) c.args.stored.now c.fill_runs.new.level
    (sym (zeros_are table.count (places_in c.args.places) known.1 c.requires.many)) e.5 (e.0, e.1, e.3, e.4)

pub returns : goal.returns
returns g c =
    let known = c.takes_runs.ensures c.if-not-takes_runs.false in
    let table = g.T.RowTable.table c.args.rows.now.table.now in
    let e = c.in-Err.ensures in
    refused_answer (keys_of table c.args.rows.now.level c.args.rows.now.through) c.args.parents (replicate table.count 0)
    (places_in c.args.places) e.2 c.args.stored.now c.fill_runs.new.level c.in-Err.refusal
    (sym (zeros_are table.count (places_in c.args.places) known.1 c.requires.many)) (e.0, e.1, e.3, e.4)
