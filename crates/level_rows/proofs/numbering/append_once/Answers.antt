use Rattle.std.specs.Prelude.{◌-◌, length, slice_index, nat_lt, refl}
use Rattle.std.specs.List.{range_with_len}
use Rattle.std.proofs.Common.{◌∙◌, ap, arith}
use Rattle.level_core.specs.Kinds.{properties}
use Rattle.level_rows.specs.Rows.{rows_at}
use Rattle.level_rows.specs.Filling.{places_once}
use Rattle.level_rows.proofs.AppendLoop.{may_close, may_finish_it, appends}
use Rattle.level_rows.proofs.AtOnce.{kinds, none, may_once, once_filled}
use Rattle.level_rows.proofs.numbering.append_once.Goals as goal

pub append_run-at-requires-clause-may : goal.append_run-at-requires-clause-may
append_run-at-requires-clause-may g c =
    may_once g.L.LevelKind.meaning g.met.L.LevelKind.laws c.args.parents (rows_at (g.R.SortedRows.keys c.args._rows.now) (places_once
    c.args.each (g.R.SortedRows.keys c.args._rows.now).count))
    c.args.level.now c.requires.rows c.requires.all c.args.column.now c.requires.column.long c.requires.column.at
    (kinds c.args.each (properties (g.L.LevelKind.meaning.kind c.args.level.now)).branchless (g.R.SortedRows.keys c.args._rows.now).count
    c.requires.each) c.reserve.new.self c.in_ok-reserve.ensures.log c.requires.fresh c.tell_rules.ensures

pub append_run-at-requires-clause-spare : goal.append_run-at-requires-clause-spare
append_run-at-requires-clause-spare g c =
    let spare = c.in_ok-reserve.ensures.spare in
    let long = c.requires.column.long in
    let most = c.requires.most in
    omega (arith, spare, long, most)

pub append_run-at-requires-clause-room : goal.append_run-at-requires-clause-room
append_run-at-requires-clause-room g c =
    let empty = none g.L.LevelKind.meaning g.met.L.LevelKind.laws c.args.parents (rows_at (g.R.SortedRows.keys c.args._rows.now)
    (places_once c.args.each (g.R.SortedRows.keys c.args._rows.now).count))
    c.args.level.now c.requires.rows c.requires.all c.args.column.now c.requires.column.long c.requires.column.at
    (kinds c.args.each (properties (g.L.LevelKind.meaning.kind c.args.level.now)).branchless (g.R.SortedRows.keys c.args._rows.now).count
    c.requires.each) c.reserve.new.self c.in_ok-reserve.ensures.log c.requires.fresh c.tell_rules.ensures in
    let first = ap length empty in
    let long = c.requires.column.long in
    let most = c.requires.most in
    let room = c.requires.room in
    omega (arith, first, long, most, room)

pub append_run-at-requires-clause-count : goal.append_run-at-requires-clause-count
append_run-at-requires-clause-count g c =
    let empty = none g.L.LevelKind.meaning g.met.L.LevelKind.laws c.args.parents (rows_at (g.R.SortedRows.keys c.args._rows.now)
    (places_once c.args.each (g.R.SortedRows.keys c.args._rows.now).count))
    c.args.level.now c.requires.rows c.requires.all c.args.column.now c.requires.column.long c.requires.column.at
    (kinds c.args.each (properties (g.L.LevelKind.meaning.kind c.args.level.now)).branchless (g.R.SortedRows.keys c.args._rows.now).count
    c.requires.each) c.reserve.new.self c.in_ok-reserve.ensures.log c.requires.fresh c.tell_rules.ensures in
    let first = ap length empty in
    omega (arith, first)

pub close-requires : goal.close-requires
close-requires g c =
    let full = once_filled g.L.LevelKind.meaning g.met.L.LevelKind.laws c.args.parents (rows_at (g.R.SortedRows.keys c.args._rows.now)
    (places_once c.args.each (g.R.SortedRows.keys c.args._rows.now).count))
    c.args.level.now c.requires.rows c.requires.all c.args.column.now c.requires.column.long c.requires.column.at
    (kinds c.args.each (properties (g.L.LevelKind.meaning.kind c.args.level.now)).branchless (g.R.SortedRows.keys c.args._rows.now).count
    c.requires.each) c.reserve.new.self c.in_ok-reserve.ensures.log c.requires.fresh c.tell_rules.ensures
    (g.L.Append.spare c.append_run-at.new.level) (record { last = c.last_parent-last.result; begin = 0; count = 0 }) c.append_run-at.result
    c.append_run-at.new.level (c.last_parent-last.ensures ∙ ap (λ n. slice_index (places_once c.args.each n) (n - 1)) c.requires.most)
    refl refl c.append_run-at.ensures.cursor c.append_run-at.ensures.log
    c.append_run-at.ensures.keeps in
    may_close g.L.LevelKind.meaning g.met.L.LevelKind.laws c.args.parents
    (rows_at (g.R.SortedRows.keys c.args._rows.now) (places_once c.args.each (g.R.SortedRows.keys c.args._rows.now).count))
    c.args.level.now c.requires.rows
    (g.L.Append.spare c.append_run-at.new.level) c.append_run-at.result
    (range_with_len 0 (g.R.SortedRows.keys c.args._rows.now).count) c.append_run-at.new.level full (nat_lt 0 c.args.most) (ap (nat_lt 0)
    c.requires.most)

pub finish-requires : goal.finish-requires
finish-requires g c =
    let full = once_filled g.L.LevelKind.meaning g.met.L.LevelKind.laws c.args.parents (rows_at (g.R.SortedRows.keys c.args._rows.now)
    (places_once c.args.each (g.R.SortedRows.keys c.args._rows.now).count))
    c.args.level.now c.requires.rows c.requires.all c.args.column.now c.requires.column.long c.requires.column.at
    (kinds c.args.each (properties (g.L.LevelKind.meaning.kind c.args.level.now)).branchless (g.R.SortedRows.keys c.args._rows.now).count
    c.requires.each) c.reserve.new.self c.in_ok-reserve.ensures.log c.requires.fresh c.tell_rules.ensures
    (g.L.Append.spare c.append_run-at.new.level) (record { last = c.last_parent-last.result; begin = 0; count = 0 }) c.append_run-at.result
    c.append_run-at.new.level (c.last_parent-last.ensures ∙ ap (λ n. slice_index (places_once c.args.each n) (n - 1)) c.requires.most)
    refl refl c.append_run-at.ensures.cursor c.append_run-at.ensures.log
    c.append_run-at.ensures.keeps in
    may_finish_it g.L.LevelKind.meaning g.met.L.LevelKind.laws c.args.parents
    (rows_at (g.R.SortedRows.keys c.args._rows.now) (places_once c.args.each (g.R.SortedRows.keys c.args._rows.now).count))
    c.args.level.now c.requires.rows
    (g.L.Append.spare c.append_run-at.new.level) c.append_run-at.result
    (range_with_len 0 (g.R.SortedRows.keys c.args._rows.now).count) c.append_run-at.new.level full (nat_lt 0 c.args.most)
    c.close.new.level (ap (nat_lt 0) c.requires.most) c.close.ensures.log c.close.ensures.keeps

pub returns-clause-ok : goal.returns-clause-ok
returns-clause-ok g c =
    let full = once_filled g.L.LevelKind.meaning g.met.L.LevelKind.laws c.args.parents (rows_at (g.R.SortedRows.keys c.args._rows.now)
    (places_once c.args.each (g.R.SortedRows.keys c.args._rows.now).count))
    c.args.level.now c.requires.rows c.requires.all c.args.column.now c.requires.column.long c.requires.column.at
    (kinds c.args.each (properties (g.L.LevelKind.meaning.kind c.args.level.now)).branchless (g.R.SortedRows.keys c.args._rows.now).count
    c.requires.each) c.reserve.new.self c.in_ok-reserve.ensures.log c.requires.fresh c.tell_rules.ensures
    (g.L.Append.spare c.append_run-at.new.level) (record { last = c.last_parent-last.result; begin = 0; count = 0 }) c.append_run-at.result
    c.append_run-at.new.level (c.last_parent-last.ensures ∙ ap (λ n. slice_index (places_once c.args.each n) (n - 1)) c.requires.most)
    refl refl c.append_run-at.ensures.cursor c.append_run-at.ensures.log
    c.append_run-at.ensures.keeps in
    appends g.L.LevelKind.meaning g.met.L.LevelKind.laws c.args.parents
    (rows_at (g.R.SortedRows.keys c.args._rows.now) (places_once c.args.each (g.R.SortedRows.keys c.args._rows.now).count))
    c.args.level.now c.requires.rows
    (g.L.Append.spare c.append_run-at.new.level) c.append_run-at.result
    (range_with_len 0 (g.R.SortedRows.keys c.args._rows.now).count) c.append_run-at.new.level full (nat_lt 0 c.args.most)
    c.close.new.level c.finish.new.self (ap (nat_lt 0) c.requires.most) c.close.ensures.log c.close.ensures.keeps c.finish.ensures
