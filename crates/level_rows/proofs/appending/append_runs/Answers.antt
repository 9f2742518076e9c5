use Rattle.std.specs.Prelude.{◌≡◌, ◌≤◌, ◌<◌, ◌-◌, ℕ, length, take, drop, slice_index, nat_lt}
use Rattle.std.proofs.Common.{ap, subst, arith}
use Rattle.level_rows.specs.Rows.{rows_at, place}
use Rattle.level_rows.proofs.AppendLoop.{Filling, next_is, turned_to, may_close, may_finish_it, appends}
use Rattle.level_rows.proofs.RunSteps.{run_at, run_length}
use Rattle.level_rows.proofs.RunLoop.{may_append_run, run_spare, run_room, run_filled}
use Rattle.level_rows.proofs.appending.append_runs.Goals as goal

-- a row is left
left : (done long many : ℕ) → done < long → long ≡ many → done < many
left done long many h is = omega (arith, h, is)

pub append_run-at-requires-clause-may : goal.append_run-at-requires-clause-may
append_run-at-requires-clause-may g c =
    let here = left c.loop-done.done (length c.loop-done.positions) (g.R.SortedRows.keys c.args._rows.now).count c.loop-done-test.true
    c.loop-done.invariant.placing.many in
    let turned =
    turned_to g.L.LevelKind.meaning g.met.L.LevelKind.laws c.args.parents
    (rows_at (g.R.SortedRows.keys c.args._rows.now) c.args.positions.now) c.args.level.now c.requires.rows c.loop-done.done
    (g.L.Append.spare c.loop-done.level) c.loop-done.at c.loop-done.positions c.loop-done.level c.loop-done.invariant
    (slice_index c.loop-done.positions c.loop-done.done) (g.L.Append.spare c.turn-at.new.level) c.turn-at.result c.turn-at.new.level
    (next_is g.L.LevelKind.meaning g.met.L.LevelKind.laws c.args.parents
    (rows_at (g.R.SortedRows.keys c.args._rows.now) c.args.positions.now) c.args.level.now c.requires.rows c.loop-done.done
    (g.L.Append.spare c.loop-done.level) c.loop-done.at c.loop-done.positions c.loop-done.level c.loop-done.invariant
    here) here c.turn-at.ensures.cursor c.turn-at.ensures.log c.turn-at.ensures.keeps c.turn-at.ensures.spare in
    let run =
    run_at (rows_at (g.R.SortedRows.keys c.args._rows.now) c.args.positions.now)
    (place (g.R.SortedRows.keys c.args._rows.now).first) c.loop-done.done c.number_run-end.result c.args.column.now c.loop-done.positions
    c.requires.column.long c.requires.column.at c.requires.all c.loop-done.invariant.placing c.number_run-end.ensures.more
    c.number_run-end.ensures.within c.number_run-end.ensures.same in
    may_append_run g.L.LevelKind.meaning g.met.L.LevelKind.laws c.args.parents
    (rows_at (g.R.SortedRows.keys c.args._rows.now) c.args.positions.now) c.args.level.now c.requires.rows
    c.requires.all c.loop-done.done (g.L.Append.spare c.turn-at.new.level) c.turn-at.result c.turn-at.new.level turned
    (take (c.number_run-end.result - c.loop-done.done) (drop c.loop-done.done c.args.column.now)) run

pub append_run-at-requires-clause-spare : goal.append_run-at-requires-clause-spare
append_run-at-requires-clause-spare g c =
    let here = left c.loop-done.done (length c.loop-done.positions) (g.R.SortedRows.keys c.args._rows.now).count c.loop-done-test.true
    c.loop-done.invariant.placing.many in
    let turned =
    turned_to g.L.LevelKind.meaning g.met.L.LevelKind.laws c.args.parents
    (rows_at (g.R.SortedRows.keys c.args._rows.now) c.args.positions.now) c.args.level.now c.requires.rows c.loop-done.done
    (g.L.Append.spare c.loop-done.level) c.loop-done.at c.loop-done.positions c.loop-done.level c.loop-done.invariant
    (slice_index c.loop-done.positions c.loop-done.done) (g.L.Append.spare c.turn-at.new.level) c.turn-at.result c.turn-at.new.level
    (next_is g.L.LevelKind.meaning g.met.L.LevelKind.laws c.args.parents
    (rows_at (g.R.SortedRows.keys c.args._rows.now) c.args.positions.now) c.args.level.now c.requires.rows c.loop-done.done
    (g.L.Append.spare c.loop-done.level) c.loop-done.at c.loop-done.positions c.loop-done.level c.loop-done.invariant
    here) here c.turn-at.ensures.cursor c.turn-at.ensures.log c.turn-at.ensures.keeps c.turn-at.ensures.spare in
    let run =
    run_at (rows_at (g.R.SortedRows.keys c.args._rows.now) c.args.positions.now)
    (place (g.R.SortedRows.keys c.args._rows.now).first) c.loop-done.done c.number_run-end.result c.args.column.now c.loop-done.positions
    c.requires.column.long c.requires.column.at c.requires.all c.loop-done.invariant.placing c.number_run-end.ensures.more
    c.number_run-end.ensures.within c.number_run-end.ensures.same in
    run_spare g.L.LevelKind.meaning g.met.L.LevelKind.laws c.args.parents
    (rows_at (g.R.SortedRows.keys c.args._rows.now) c.args.positions.now) c.args.level.now c.requires.rows
    c.requires.all c.loop-done.done (g.L.Append.spare c.turn-at.new.level) c.turn-at.result c.turn-at.new.level turned
    (take (c.number_run-end.result - c.loop-done.done) (drop c.loop-done.done c.args.column.now)) run

pub append_run-at-requires-clause-room : goal.append_run-at-requires-clause-room
append_run-at-requires-clause-room g c =
    let here = left c.loop-done.done (length c.loop-done.positions) (g.R.SortedRows.keys c.args._rows.now).count c.loop-done-test.true
    c.loop-done.invariant.placing.many in
    let turned =
    turned_to g.L.LevelKind.meaning g.met.L.LevelKind.laws c.args.parents
    (rows_at (g.R.SortedRows.keys c.args._rows.now) c.args.positions.now) c.args.level.now c.requires.rows c.loop-done.done
    (g.L.Append.spare c.loop-done.level) c.loop-done.at c.loop-done.positions c.loop-done.level c.loop-done.invariant
    (slice_index c.loop-done.positions c.loop-done.done) (g.L.Append.spare c.turn-at.new.level) c.turn-at.result c.turn-at.new.level
    (next_is g.L.LevelKind.meaning g.met.L.LevelKind.laws c.args.parents
    (rows_at (g.R.SortedRows.keys c.args._rows.now) c.args.positions.now) c.args.level.now c.requires.rows c.loop-done.done
    (g.L.Append.spare c.loop-done.level) c.loop-done.at c.loop-done.positions c.loop-done.level c.loop-done.invariant
    here) here c.turn-at.ensures.cursor c.turn-at.ensures.log c.turn-at.ensures.keeps c.turn-at.ensures.spare in
    let run =
    run_at (rows_at (g.R.SortedRows.keys c.args._rows.now) c.args.positions.now)
    (place (g.R.SortedRows.keys c.args._rows.now).first) c.loop-done.done c.number_run-end.result c.args.column.now c.loop-done.positions
    c.requires.column.long c.requires.column.at c.requires.all c.loop-done.invariant.placing c.number_run-end.ensures.more
    c.number_run-end.ensures.within c.number_run-end.ensures.same in
    run_room g.L.LevelKind.meaning g.met.L.LevelKind.laws c.args.parents
    (rows_at (g.R.SortedRows.keys c.args._rows.now) c.args.positions.now) c.args.level.now c.requires.rows
    c.requires.all c.loop-done.done (g.L.Append.spare c.turn-at.new.level) c.turn-at.result c.turn-at.new.level turned
    (take (c.number_run-end.result - c.loop-done.done) (drop c.loop-done.done c.args.column.now)) run
    (let m = c.requires.most in let r = c.requires.room in omega (arith, m, r))

pub loop-done-preserved : goal.loop-done-preserved
loop-done-preserved g c =
    let here = left c.loop-done.done (length c.loop-done.positions) (g.R.SortedRows.keys c.args._rows.now).count c.loop-done-test.true
    c.loop-done.invariant.placing.many in
    let turned =
    turned_to g.L.LevelKind.meaning g.met.L.LevelKind.laws c.args.parents
    (rows_at (g.R.SortedRows.keys c.args._rows.now) c.args.positions.now) c.args.level.now c.requires.rows c.loop-done.done
    (g.L.Append.spare c.loop-done.level) c.loop-done.at c.loop-done.positions c.loop-done.level c.loop-done.invariant
    (slice_index c.loop-done.positions c.loop-done.done) (g.L.Append.spare c.turn-at.new.level) c.turn-at.result c.turn-at.new.level
    (next_is g.L.LevelKind.meaning g.met.L.LevelKind.laws c.args.parents
    (rows_at (g.R.SortedRows.keys c.args._rows.now) c.args.positions.now) c.args.level.now c.requires.rows c.loop-done.done
    (g.L.Append.spare c.loop-done.level) c.loop-done.at c.loop-done.positions c.loop-done.level c.loop-done.invariant
    here) here c.turn-at.ensures.cursor c.turn-at.ensures.log c.turn-at.ensures.keeps c.turn-at.ensures.spare in
    let run =
    run_at (rows_at (g.R.SortedRows.keys c.args._rows.now) c.args.positions.now)
    (place (g.R.SortedRows.keys c.args._rows.now).first) c.loop-done.done c.number_run-end.result c.args.column.now c.loop-done.positions
    c.requires.column.long c.requires.column.at c.requires.all c.loop-done.invariant.placing c.number_run-end.ensures.more
    c.number_run-end.ensures.within c.number_run-end.ensures.same in
    let many = c.loop-done.invariant.placing.many in
    let long = run_length c.loop-done.done c.number_run-end.result c.args.column.now
    (let more = c.number_run-end.ensures.more in omega (arith, more))
    (let within = c.number_run-end.ensures.within in let column = c.requires.column.long in omega (arith, within, many, column)) in
    let more = c.number_run-end.ensures.more in
    run_filled g.L.LevelKind.meaning g.met.L.LevelKind.laws c.args.parents
    (rows_at (g.R.SortedRows.keys c.args._rows.now) c.args.positions.now) c.args.level.now c.requires.rows
    c.requires.all c.loop-done.done (g.L.Append.spare c.turn-at.new.level) c.turn-at.result c.turn-at.new.level turned
    (take (c.number_run-end.result - c.loop-done.done) (drop c.loop-done.done c.args.column.now)) run
    c.number_run-end.result (g.L.Append.spare c.append_run-at.new.level) c.append_run-at.result c.loop-done.positions
    c.number_run-end.new.positions c.append_run-at.new.level (omega (arith, long, more)) more c.append_run-at.ensures.cursor
    c.append_run-at.ensures.log c.append_run-at.ensures.keeps c.append_run-at.ensures.spare c.loop-done.invariant.placing
    c.number_run-end.ensures.numbered

-- no row is left
ended : (done long many : ℕ) → long ≤ done → done ≤ many → long ≡ many → done ≡ many
ended done long many h l is = omega (arith, h, l, is)

pub close-requires : goal.close-requires
close-requires g c =
    let all : c.loop-done.done ≡ (g.R.SortedRows.keys c.args._rows.now).count =
    ended c.loop-done.done (length c.loop-done.positions) (g.R.SortedRows.keys c.args._rows.now).count c.loop-done-test.false
    c.loop-done.invariant.upto c.loop-done.invariant.placing.many in
    let full =
    subst (λ n. Filling g.L.LevelKind.meaning c.args.parents n (g.L.Append.spare c.loop-done.level) c.loop-done.at
    (rows_at (g.R.SortedRows.keys c.args._rows.now) c.args.positions.now) c.loop-done.positions c.args.level.now
    c.loop-done.level) all c.loop-done.invariant in
    may_close g.L.LevelKind.meaning g.met.L.LevelKind.laws c.args.parents
    (rows_at (g.R.SortedRows.keys c.args._rows.now) c.args.positions.now) c.args.level.now c.requires.rows
    (g.L.Append.spare c.loop-done.level) c.loop-done.at c.loop-done.positions c.loop-done.level full (nat_lt 0 c.loop-done.done)
    (ap (nat_lt 0) all)

pub finish-requires : goal.finish-requires
finish-requires g c =
    let all : c.loop-done.done ≡ (g.R.SortedRows.keys c.args._rows.now).count =
    ended c.loop-done.done (length c.loop-done.positions) (g.R.SortedRows.keys c.args._rows.now).count c.loop-done-test.false
    c.loop-done.invariant.upto c.loop-done.invariant.placing.many in
    let full =
    subst (λ n. Filling g.L.LevelKind.meaning c.args.parents n (g.L.Append.spare c.loop-done.level) c.loop-done.at
    (rows_at (g.R.SortedRows.keys c.args._rows.now) c.args.positions.now) c.loop-done.positions c.args.level.now
    c.loop-done.level) all c.loop-done.invariant in
    may_finish_it g.L.LevelKind.meaning g.met.L.LevelKind.laws c.args.parents
    (rows_at (g.R.SortedRows.keys c.args._rows.now) c.args.positions.now) c.args.level.now c.requires.rows
    (g.L.Append.spare c.loop-done.level) c.loop-done.at c.loop-done.positions c.loop-done.level full (nat_lt 0 c.loop-done.done)
    c.close.new.level (ap (nat_lt 0) all) c.close.ensures.log c.close.ensures.keeps

pub returns-clause-ok : goal.returns-clause-ok
returns-clause-ok g c =
    let all : c.loop-done.done ≡ (g.R.SortedRows.keys c.args._rows.now).count =
    ended c.loop-done.done (length c.loop-done.positions) (g.R.SortedRows.keys c.args._rows.now).count c.loop-done-test.false
    c.loop-done.invariant.upto c.loop-done.invariant.placing.many in
    let full =
    subst (λ n. Filling g.L.LevelKind.meaning c.args.parents n (g.L.Append.spare c.loop-done.level) c.loop-done.at
    (rows_at (g.R.SortedRows.keys c.args._rows.now) c.args.positions.now) c.loop-done.positions c.args.level.now
    c.loop-done.level) all c.loop-done.invariant in
    appends g.L.LevelKind.meaning g.met.L.LevelKind.laws c.args.parents
    (rows_at (g.R.SortedRows.keys c.args._rows.now) c.args.positions.now)
    c.args.level.now c.requires.rows (g.L.Append.spare c.loop-done.level) c.loop-done.at c.loop-done.positions c.loop-done.level full
    (nat_lt 0 c.loop-done.done) c.close.new.level c.finish.new.self (ap (nat_lt 0) all) c.close.ensures.log c.close.ensures.keeps
    c.finish.ensures
