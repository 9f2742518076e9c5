use Rattle.std.specs.Prelude.{◌≡◌, ◌+◌, ◌<◌, slice_index, slice_set}
use Rattle.std.proofs.Common.{sym, subst, arith}
use Rattle.level_rows.specs.Values.{StoresValues}
use Rattle.level_rows.proofs.ValueLaws.{one_stored}
use Rattle.level_rows.proofs.values.store_values.Goals as goal

pub loop-row-preserved : goal.loop-row-preserved
loop-row-preserved g c =
    let here : c.loop-row.row < (g.R.SortedRows.keys c.args.rows.now).count = let test = c.loop-row-test.true in
    let many = c.requires.many in omega (arith, test, many) in
    subst (λ v. StoresValues (c.loop-row.row + 1) (slice_index c.args.positions.now) (g.R.RowValues.values c.args.rows.now)
    c.args.values.now (slice_set c.loop-row.values (slice_index c.args.positions.now c.loop-row.row) v)) (sym c.value.ensures)
    (one_stored c.loop-row.row (g.R.SortedRows.keys c.args.rows.now).count (slice_index c.args.positions.now)
    (g.R.RowValues.values c.args.rows.now) c.args.values.now c.loop-row.values c.requires.apart here
    (c.requires.within c.loop-row.row here) c.loop-row.invariant)

pub returns : goal.returns
returns g c =
    let all : c.loop-row.row ≡ (g.R.SortedRows.keys c.args.rows.now).count = let end = c.loop-row.auto.row-end in
    let test = c.loop-row-test.false in let many = c.requires.many in omega (arith, end, test, many) in
    subst (λ n. StoresValues n (slice_index c.args.positions.now) (g.R.RowValues.values c.args.rows.now) c.args.values.now
    c.loop-row.values) all c.loop-row.invariant
