use Rattle.std.proofs.Common.{◌≡◌, ◌∙◌, ◌+◌, suc, sym, ap, arith, map, take, slice_index}
use Rattle.kernel_code.specs.Rows.{list_rows}
use Rattle.kernel_code.proofs.SortLemmas.{list_rows_more}
use Rattle.machine_parts.specs.Rows.{as_row}
use Rattle.machine_parts.proofs.RowLemmas.{scratch_row_added}
use Rattle.machine_parts.proofs.rows.rows_of_list.Goals as goal

pub loop-i-preserved : goal.loop-i-preserved
loop-i-preserved c =
    let cs = c.args.coordinates.now in
    let ps = c.args.positions.now in
    let i = c.loop-i.i in
    let next : i + 1 ≡ suc i = omega arith in
    ap (map as_row) c.in_ok-push.ensures.items
    ∙ scratch_row_added c.loop-i.rows.items (record { coordinate = slice_index cs i; position = slice_index ps i })
    (list_rows (take i cs) (take i ps)) c.loop-i.invariant
    ∙ sym (ap (λ n. list_rows (take n cs) (take n ps)) next ∙ list_rows_more cs ps i (omega arith) (omega arith))
