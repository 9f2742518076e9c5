use Rattle.text_lines.proofs.PutPieces.{then_printed, refused}
use Rattle.kernel_print.proofs.statements.put_set.Goals as goal

pub returns-in_err-put_numbered : goal.returns-in_err-put_numbered
returns-in_err-put_numbered g c =
    refused c.from_residual.result c.in_err-put_numbered.field-0.0 _ _ _ _ c.from_residual.ensures.1 c.in_err-put_numbered.ensures

pub returns : goal.returns
returns g c = then_printed _ _ _ _ _ _ c.in_ok-put_numbered.ensures c.put_one.ensures
