use Rattle.std.specs.Prelude.{◌≡◌, ◌≤◌, ◌<◌, ℕ, suc, length, slice_index, refl, nat_lt}
use Rattle.std.proofs.Common.{ap, subst, arith}
use Rattle.level_rows.specs.Rows.{rows_at}
use Rattle.level_rows.proofs.RowLaws.{begun_some}
use Rattle.level_rows.proofs.AppendLoop.{Filling, begins, next_is, may_turn_to, turned_to, may_append, is_spare, is_room, count_some}
use Rattle.level_rows.proofs.AppendLoop.{filled_more, may_close, may_finish_it, appends}
use Rattle.level_rows.proofs.appending.append_each.Goals as goal

pub loop-done-init : goal.loop-done-init
loop-done-init g c =
    begins g.L.LevelKind.meaning g.met.L.LevelKind.laws c.args.parents (rows_at (g.R.SortedRows.keys c.args.rows.now) c.args.positions.now)
    c.args.level.now c.requires.rows c.args.most (g.L.Append.spare c.reserve.new.self) c.args.positions.now c.reserve.new.self
    c.in_ok-reserve.ensures.log c.requires.fresh c.tell_rules.ensures c.requires.most c.in_ok-reserve.ensures.spare c.requires.many
    (λ i. refl)

-- a row is left
left : (done long many : ℕ) → done < long → long ≡ many → done < many
left done long many h is = omega (arith, h, is)

pub turn-at-requires : goal.turn-at-requires
turn-at-requires g c =
    let here = left c.loop-done.done (length c.loop-done.positions) (g.R.SortedRows.keys c.args.rows.now).count c.loop-done-test.true
    c.loop-done.invariant.placing.many in
    may_turn_to g.L.LevelKind.meaning g.met.L.LevelKind.laws c.args.parents
    (rows_at (g.R.SortedRows.keys c.args.rows.now) c.args.positions.now) c.args.level.now c.requires.rows c.loop-done.done
    (g.L.Append.spare c.loop-done.level) c.loop-done.at c.loop-done.positions c.loop-done.level c.loop-done.invariant
    (slice_index c.loop-done.positions c.loop-done.done) (next_is g.L.LevelKind.meaning g.met.L.LevelKind.laws c.args.parents
    (rows_at (g.R.SortedRows.keys c.args.rows.now) c.args.positions.now) c.args.level.now c.requires.rows c.loop-done.done
    (g.L.Append.spare c.loop-done.level) c.loop-done.at c.loop-done.positions c.loop-done.level c.loop-done.invariant here) here

pub append_first-at-requires-clause-may : goal.append_first-at-requires-clause-may
append_first-at-requires-clause-may g c =
    let here = left c.loop-done.done (length c.loop-done.positions) (g.R.SortedRows.keys c.args.rows.now).count c.loop-done-test.true
    c.loop-done.invariant.placing.many in
    let turned =
    (turned_to g.L.LevelKind.meaning g.met.L.LevelKind.laws c.args.parents
    (rows_at (g.R.SortedRows.keys c.args.rows.now) c.args.positions.now) c.args.level.now c.requires.rows c.loop-done.done
    (g.L.Append.spare c.loop-done.level) c.loop-done.at c.loop-done.positions c.loop-done.level c.loop-done.invariant
    (slice_index c.loop-done.positions c.loop-done.done) (g.L.Append.spare c.turn-at.new.level) c.turn-at.result c.turn-at.new.level
    (next_is g.L.LevelKind.meaning g.met.L.LevelKind.laws c.args.parents
    (rows_at (g.R.SortedRows.keys c.args.rows.now) c.args.positions.now) c.args.level.now c.requires.rows c.loop-done.done
    (g.L.Append.spare c.loop-done.level) c.loop-done.at c.loop-done.positions c.loop-done.level c.loop-done.invariant
    here) here c.turn-at.ensures.cursor c.turn-at.ensures.log c.turn-at.ensures.keeps c.turn-at.ensures.spare) in
    may_append g.L.LevelKind.meaning g.met.L.LevelKind.laws c.args.parents
    (rows_at (g.R.SortedRows.keys c.args.rows.now) c.args.positions.now) c.args.level.now c.requires.rows c.loop-done.done
    (g.L.Append.spare c.turn-at.new.level) c.turn-at.result c.turn-at.new.level turned c.begins.result c.coord.result here
    c.begins.ensures c.coord.ensures

pub append_first-at-requires-clause-spare : goal.append_first-at-requires-clause-spare
append_first-at-requires-clause-spare g c =
    let here = left c.loop-done.done (length c.loop-done.positions) (g.R.SortedRows.keys c.args.rows.now).count c.loop-done-test.true
    c.loop-done.invariant.placing.many in
    let turned =
    (turned_to g.L.LevelKind.meaning g.met.L.LevelKind.laws c.args.parents
    (rows_at (g.R.SortedRows.keys c.args.rows.now) c.args.positions.now) c.args.level.now c.requires.rows c.loop-done.done
    (g.L.Append.spare c.loop-done.level) c.loop-done.at c.loop-done.positions c.loop-done.level c.loop-done.invariant
    (slice_index c.loop-done.positions c.loop-done.done) (g.L.Append.spare c.turn-at.new.level) c.turn-at.result c.turn-at.new.level
    (next_is g.L.LevelKind.meaning g.met.L.LevelKind.laws c.args.parents
    (rows_at (g.R.SortedRows.keys c.args.rows.now) c.args.positions.now) c.args.level.now c.requires.rows c.loop-done.done
    (g.L.Append.spare c.loop-done.level) c.loop-done.at c.loop-done.positions c.loop-done.level c.loop-done.invariant
    here) here c.turn-at.ensures.cursor c.turn-at.ensures.log c.turn-at.ensures.keeps c.turn-at.ensures.spare) in
    is_spare g.L.LevelKind.meaning g.met.L.LevelKind.laws c.args.parents
    (rows_at (g.R.SortedRows.keys c.args.rows.now) c.args.positions.now) c.args.level.now c.requires.rows c.loop-done.done
    (g.L.Append.spare c.turn-at.new.level) c.turn-at.result c.turn-at.new.level turned c.begins.result here c.begins.ensures

pub append_first-at-requires-clause-room : goal.append_first-at-requires-clause-room
append_first-at-requires-clause-room g c =
    let here = left c.loop-done.done (length c.loop-done.positions) (g.R.SortedRows.keys c.args.rows.now).count c.loop-done-test.true
    c.loop-done.invariant.placing.many in
    let turned =
    (turned_to g.L.LevelKind.meaning g.met.L.LevelKind.laws c.args.parents
    (rows_at (g.R.SortedRows.keys c.args.rows.now) c.args.positions.now) c.args.level.now c.requires.rows c.loop-done.done
    (g.L.Append.spare c.loop-done.level) c.loop-done.at c.loop-done.positions c.loop-done.level c.loop-done.invariant
    (slice_index c.loop-done.positions c.loop-done.done) (g.L.Append.spare c.turn-at.new.level) c.turn-at.result c.turn-at.new.level
    (next_is g.L.LevelKind.meaning g.met.L.LevelKind.laws c.args.parents
    (rows_at (g.R.SortedRows.keys c.args.rows.now) c.args.positions.now) c.args.level.now c.requires.rows c.loop-done.done
    (g.L.Append.spare c.loop-done.level) c.loop-done.at c.loop-done.positions c.loop-done.level c.loop-done.invariant
    here) here c.turn-at.ensures.cursor c.turn-at.ensures.log c.turn-at.ensures.keeps c.turn-at.ensures.spare) in
    is_room g.L.LevelKind.meaning g.met.L.LevelKind.laws c.args.parents (rows_at (g.R.SortedRows.keys c.args.rows.now) c.args.positions.now)
    c.args.level.now c.requires.rows c.loop-done.done (g.L.Append.spare c.turn-at.new.level) c.turn-at.result c.turn-at.new.level turned
    c.begins.result here c.begins.ensures (let m = c.requires.most in let r = c.requires.room in omega (arith, m, r))

pub overflow_sub-positions : goal.overflow_sub-positions
overflow_sub-positions g c =
    let here = left c.loop-done.done (length c.loop-done.positions) (g.R.SortedRows.keys c.args.rows.now).count c.loop-done-test.true
    c.loop-done.invariant.placing.many in
    let turned =
    (turned_to g.L.LevelKind.meaning g.met.L.LevelKind.laws c.args.parents
    (rows_at (g.R.SortedRows.keys c.args.rows.now) c.args.positions.now) c.args.level.now c.requires.rows c.loop-done.done
    (g.L.Append.spare c.loop-done.level) c.loop-done.at c.loop-done.positions c.loop-done.level c.loop-done.invariant
    (slice_index c.loop-done.positions c.loop-done.done) (g.L.Append.spare c.turn-at.new.level) c.turn-at.result c.turn-at.new.level
    (next_is g.L.LevelKind.meaning g.met.L.LevelKind.laws c.args.parents
    (rows_at (g.R.SortedRows.keys c.args.rows.now) c.args.positions.now) c.args.level.now c.requires.rows c.loop-done.done
    (g.L.Append.spare c.loop-done.level) c.loop-done.at c.loop-done.positions c.loop-done.level c.loop-done.invariant
    here) here c.turn-at.ensures.cursor c.turn-at.ensures.log c.turn-at.ensures.keeps c.turn-at.ensures.spare) in
    let k = count_some g.L.LevelKind.meaning g.met.L.LevelKind.laws c.args.parents
    (rows_at (g.R.SortedRows.keys c.args.rows.now) c.args.positions.now) c.args.level.now c.requires.rows c.loop-done.done
    (g.L.Append.spare c.turn-at.new.level) c.turn-at.result c.turn-at.new.level turned c.begins.result c.coord.result
    c.append_first-at.result c.append_first-at.new.level here c.begins.ensures c.coord.ensures c.append_first-at.ensures.cursor
    c.append_first-at.ensures.log c.append_first-at.ensures.keeps in
    let some = begun_some (rows_at (g.R.SortedRows.keys c.args.rows.now) c.args.positions.now) (suc c.loop-done.done)
    (c.requires.rows.order.begins (let h = here in omega (arith, h))) (omega arith) in
    omega (arith, k, some)

pub loop-done-preserved : goal.loop-done-preserved
loop-done-preserved g c =
    let here = left c.loop-done.done (length c.loop-done.positions) (g.R.SortedRows.keys c.args.rows.now).count c.loop-done-test.true
    c.loop-done.invariant.placing.many in
    let turned =
    (turned_to g.L.LevelKind.meaning g.met.L.LevelKind.laws c.args.parents
    (rows_at (g.R.SortedRows.keys c.args.rows.now) c.args.positions.now) c.args.level.now c.requires.rows c.loop-done.done
    (g.L.Append.spare c.loop-done.level) c.loop-done.at c.loop-done.positions c.loop-done.level c.loop-done.invariant
    (slice_index c.loop-done.positions c.loop-done.done) (g.L.Append.spare c.turn-at.new.level) c.turn-at.result c.turn-at.new.level
    (next_is g.L.LevelKind.meaning g.met.L.LevelKind.laws c.args.parents
    (rows_at (g.R.SortedRows.keys c.args.rows.now) c.args.positions.now) c.args.level.now c.requires.rows c.loop-done.done
    (g.L.Append.spare c.loop-done.level) c.loop-done.at c.loop-done.positions c.loop-done.level c.loop-done.invariant
    here) here c.turn-at.ensures.cursor c.turn-at.ensures.log c.turn-at.ensures.keeps c.turn-at.ensures.spare) in
    filled_more g.L.LevelKind.meaning g.met.L.LevelKind.laws c.args.parents
    (rows_at (g.R.SortedRows.keys c.args.rows.now) c.args.positions.now) c.args.level.now c.requires.rows c.loop-done.done
    (g.L.Append.spare c.turn-at.new.level) c.turn-at.result c.turn-at.new.level turned c.begins.result c.coord.result
    (g.L.Append.spare c.append_first-at.new.level) c.append_first-at.result c.loop-done.positions c.append_first-at.new.level here
    c.begins.ensures c.coord.ensures
    c.append_first-at.ensures.cursor c.append_first-at.ensures.log c.append_first-at.ensures.keeps c.append_first-at.ensures.spare
    c.loop-done.invariant.placing

-- no row is left
ended : (done long many : ℕ) → long ≤ done → done ≤ many → long ≡ many → done ≡ many
ended done long many h l is = omega (arith, h, l, is)

pub close-requires : goal.close-requires
close-requires g c =
    let all : c.loop-done.done ≡ (g.R.SortedRows.keys c.args.rows.now).count =
    ended c.loop-done.done (length c.loop-done.positions) (g.R.SortedRows.keys c.args.rows.now).count c.loop-done-test.false
    c.loop-done.invariant.upto c.loop-done.invariant.placing.many in
    let full =
    subst (λ n. Filling g.L.LevelKind.meaning c.args.parents n (g.L.Append.spare c.loop-done.level) c.loop-done.at
    (rows_at (g.R.SortedRows.keys c.args.rows.now) c.args.positions.now) c.loop-done.positions c.args.level.now
    c.loop-done.level) all c.loop-done.invariant in
    may_close g.L.LevelKind.meaning g.met.L.LevelKind.laws c.args.parents
    (rows_at (g.R.SortedRows.keys c.args.rows.now) c.args.positions.now) c.args.level.now c.requires.rows
    (g.L.Append.spare c.loop-done.level) c.loop-done.at c.loop-done.positions c.loop-done.level full (nat_lt 0 c.loop-done.done)
    (ap (nat_lt 0) all)

pub finish-requires : goal.finish-requires
finish-requires g c =
    let all : c.loop-done.done ≡ (g.R.SortedRows.keys c.args.rows.now).count =
    ended c.loop-done.done (length c.loop-done.positions) (g.R.SortedRows.keys c.args.rows.now).count c.loop-done-test.false
    c.loop-done.invariant.upto c.loop-done.invariant.placing.many in
    let full =
    subst (λ n. Filling g.L.LevelKind.meaning c.args.parents n (g.L.Append.spare c.loop-done.level) c.loop-done.at
    (rows_at (g.R.SortedRows.keys c.args.rows.now) c.args.positions.now) c.loop-done.positions c.args.level.now
    c.loop-done.level) all c.loop-done.invariant in
    may_finish_it g.L.LevelKind.meaning g.met.L.LevelKind.laws c.args.parents
    (rows_at (g.R.SortedRows.keys c.args.rows.now) c.args.positions.now) c.args.level.now c.requires.rows
    (g.L.Append.spare c.loop-done.level) c.loop-done.at c.loop-done.positions c.loop-done.level full (nat_lt 0 c.loop-done.done)
    c.close.new.level (ap (nat_lt 0) all) c.close.ensures.log c.close.ensures.keeps

pub returns-clause-ok : goal.returns-clause-ok
returns-clause-ok g c =
    let all : c.loop-done.done ≡ (g.R.SortedRows.keys c.args.rows.now).count =
    ended c.loop-done.done (length c.loop-done.positions) (g.R.SortedRows.keys c.args.rows.now).count c.loop-done-test.false
    c.loop-done.invariant.upto c.loop-done.invariant.placing.many in
    let full =
    subst (λ n. Filling g.L.LevelKind.meaning c.args.parents n (g.L.Append.spare c.loop-done.level) c.loop-done.at
    (rows_at (g.R.SortedRows.keys c.args.rows.now) c.args.positions.now) c.loop-done.positions c.args.level.now
    c.loop-done.level) all c.loop-done.invariant in
    appends g.L.LevelKind.meaning g.met.L.LevelKind.laws c.args.parents (rows_at (g.R.SortedRows.keys c.args.rows.now) c.args.positions.now)
    c.args.level.now c.requires.rows (g.L.Append.spare c.loop-done.level) c.loop-done.at c.loop-done.positions c.loop-done.level full
    (nat_lt 0 c.loop-done.done) c.close.new.level c.finish.new.self (ap (nat_lt 0) all) c.close.ensures.log c.close.ensures.keeps
    c.finish.ensures
