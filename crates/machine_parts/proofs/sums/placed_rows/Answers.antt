use Rattle.std.proofs.Common.{◌≡◌, ◌∙◌, ◌+◌, suc, sym, ap, arith, map, take}
use Rattle.std.specs.Prelude.{slice_index}
use Rattle.kernel_code.specs.Rows.{rows_from}
use Rattle.machine_parts.specs.Rows.{row_of}
use Rattle.machine_parts.proofs.SumLemmas.{row_added, rows_from_more}
use Rattle.machine_parts.proofs.sums.placed_rows.Goals as goal

pub loop-place-preserved : goal.loop-place-preserved
loop-place-preserved c =
    let i = c.loop-place.place in
    let vs = c.args.values.now in
    let next : i + 1 ≡ suc i = omega arith in
    λ columns. ap (map (row_of columns)) c.in_ok-push.ensures.items
    ∙ row_added columns c.loop-place.rows.items (record { place = i; value = slice_index vs i }) (rows_from columns 0 (take i vs))
    (c.loop-place.invariant columns)
    ∙ sym (ap (λ n. rows_from columns 0 (take n vs)) next ∙ rows_from_more columns 0 i i vs (omega arith) (omega arith))
