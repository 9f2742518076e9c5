use Rattle.text_lines.proofs.PutPieces.{then_printed, refused}
use Rattle.mtx_io.proofs.printing.put_entry.Goals as goal

pub returns-in_err-put_spaced : goal.returns-in_err-put_spaced
returns-in_err-put_spaced g c =
    refused c.from_residual.result c.in_err-put_spaced.field-0.0 _ _ _ _ c.from_residual.ensures.1 c.in_err-put_spaced.ensures

pub returns-in_err-put_spaced-2 : goal.returns-in_err-put_spaced-2
returns-in_err-put_spaced-2 g c =
    let r = c.from_residual-in_err-put_spaced-2 in
    then_printed _ _ _ _ _ _ c.in_ok-put_spaced.ensures
    (refused r.result c.in_err-put_spaced-2.field-0.0 _ _ _ _ r.ensures.1 c.in_err-put_spaced-2.ensures)

pub returns : goal.returns
returns g c = then_printed _ _ _ _ _ _ c.in_ok-put_spaced.ensures
    (then_printed _ _ _ _ _ _ c.in_ok-put_spaced-2.ensures c.put_value.ensures)
