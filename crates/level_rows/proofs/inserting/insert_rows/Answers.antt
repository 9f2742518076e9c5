use Rattle.std.specs.Prelude.{◌≡◌, ◌≤◌, ◌<◌, ℕ, length, slice_index, refl}
use Rattle.std.proofs.Common.{subst, arith}
use Rattle.level_rows.specs.Rows.{rows_at}
use Rattle.level_rows.proofs.InsertLoop.{Inserting, begins, next_is, allowed_next, may_insert_next, inserts_next, inserts}
use Rattle.level_rows.proofs.inserting.insert_rows.Goals as goal

-- a row is left
left : (done long many : ℕ) → done < long → long ≡ many → done < many
left done long many h is = omega (arith, h, is)

-- no row is left
ended : (done long many : ℕ) → long ≤ done → done ≤ many → long ≡ many → done ≡ many
ended done long many h l is = omega (arith, h, l, is)

pub loop-done-init : goal.loop-done-init
loop-done-init g c =
    begins g.L.LevelKind.meaning g.met.L.LevelKind.laws c.args.parents c.args.most
    (rows_at (g.R.SortedRows.keys c.args.rows.now) c.args.positions.now) c.args.level.now c.requires.rows c.requires.most
    c.args.positions.now c.prepare.new.self c.tell_rules.ensures c.requires.may c.requires.within c.in_ok-prepare.ensures.ok c.requires.many
    (λ i h. refl)

pub insert_first-at-requires-clause-parent : goal.insert_first-at-requires-clause-parent
insert_first-at-requires-clause-parent g c =
    let here = left c.loop-done.done (length c.loop-done.positions) (g.R.SortedRows.keys c.args.rows.now).count c.loop-done-test.true
    c.loop-done.invariant.many in
    let parent = next_is g.L.LevelKind.meaning g.met.L.LevelKind.laws c.args.parents c.args.most
    (rows_at (g.R.SortedRows.keys c.args.rows.now) c.args.positions.now) c.args.level.now c.requires.rows c.requires.most
    c.loop-done.done c.loop-done.at c.loop-done.positions c.loop-done.level c.loop-done.invariant here in
    λ first. allowed_next g.L.LevelKind.meaning g.met.L.LevelKind.laws c.args.parents c.args.most
    (rows_at (g.R.SortedRows.keys c.args.rows.now) c.args.positions.now) c.args.level.now c.requires.rows c.requires.most
    c.loop-done.done c.loop-done.at c.loop-done.positions c.loop-done.level c.loop-done.invariant
    (slice_index c.loop-done.positions c.loop-done.done) here parent

pub insert_first-at-requires-clause-may : goal.insert_first-at-requires-clause-may
insert_first-at-requires-clause-may g c =
    let here = left c.loop-done.done (length c.loop-done.positions) (g.R.SortedRows.keys c.args.rows.now).count c.loop-done-test.true
    c.loop-done.invariant.many in
    let parent = next_is g.L.LevelKind.meaning g.met.L.LevelKind.laws c.args.parents c.args.most
    (rows_at (g.R.SortedRows.keys c.args.rows.now) c.args.positions.now) c.args.level.now c.requires.rows c.requires.most
    c.loop-done.done c.loop-done.at c.loop-done.positions c.loop-done.level c.loop-done.invariant here in
    may_insert_next g.L.LevelKind.meaning g.met.L.LevelKind.laws c.args.parents c.args.most
    (rows_at (g.R.SortedRows.keys c.args.rows.now) c.args.positions.now) c.args.level.now c.requires.rows c.requires.most
    c.loop-done.done c.loop-done.at c.loop-done.positions c.loop-done.level c.loop-done.invariant
    (slice_index c.loop-done.positions c.loop-done.done) c.coord.result c.begins.result here parent c.coord.ensures c.begins.ensures

pub loop-done-preserved : goal.loop-done-preserved
loop-done-preserved g c =
    let here = left c.loop-done.done (length c.loop-done.positions) (g.R.SortedRows.keys c.args.rows.now).count c.loop-done-test.true
    c.loop-done.invariant.many in
    let parent = next_is g.L.LevelKind.meaning g.met.L.LevelKind.laws c.args.parents c.args.most
    (rows_at (g.R.SortedRows.keys c.args.rows.now) c.args.positions.now) c.args.level.now c.requires.rows c.requires.most
    c.loop-done.done c.loop-done.at c.loop-done.positions c.loop-done.level c.loop-done.invariant here in
    inserts_next g.L.LevelKind.meaning g.met.L.LevelKind.laws c.args.parents c.args.most
    (rows_at (g.R.SortedRows.keys c.args.rows.now) c.args.positions.now) c.args.level.now c.requires.rows c.requires.most
    c.loop-done.done c.loop-done.at c.loop-done.positions c.loop-done.level c.loop-done.invariant
    (slice_index c.loop-done.positions c.loop-done.done) c.coord.result c.insert_first-at.result c.begins.result
    c.insert_first-at.new.level here parent c.coord.ensures c.begins.ensures c.insert_first-at.ensures.first
    c.insert_first-at.ensures.again

pub returns-clause-ok : goal.returns-clause-ok
returns-clause-ok g c =
    let all : c.loop-done.done ≡ (g.R.SortedRows.keys c.args.rows.now).count =
    ended c.loop-done.done (length c.loop-done.positions) (g.R.SortedRows.keys c.args.rows.now).count c.loop-done-test.false
    c.loop-done.invariant.upto c.loop-done.invariant.many in
    inserts g.L.LevelKind.meaning g.met.L.LevelKind.laws c.args.parents c.args.most
    (rows_at (g.R.SortedRows.keys c.args.rows.now) c.args.positions.now) c.args.level.now c.requires.rows c.requires.most c.loop-done.at
    c.loop-done.positions c.loop-done.level
    (subst (λ n. Inserting g.L.LevelKind.meaning c.args.parents c.args.most n c.loop-done.at
    (rows_at (g.R.SortedRows.keys c.args.rows.now) c.args.positions.now) c.loop-done.positions c.args.level.now
    c.loop-done.level) all c.loop-done.invariant)
