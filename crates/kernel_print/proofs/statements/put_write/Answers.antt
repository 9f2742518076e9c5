use Rattle.text_lines.proofs.PutPieces.{then_printed, refused}
use Rattle.kernel_print.proofs.statements.put_write.Goals as goal

pub returns-in_err-put_array : goal.returns-in_err-put_array
returns-in_err-put_array g c =
    refused c.from_residual.result c.in_err-put_array.field-0.0 _ _ _ _ c.from_residual.ensures.1 c.in_err-put_array.ensures

pub returns : goal.returns
returns g c = then_printed _ _ _ _ _ _ c.in_ok-put_array.ensures c.put_two.ensures
