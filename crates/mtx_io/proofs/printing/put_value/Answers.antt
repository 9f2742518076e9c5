use Rattle.std.specs.Prelude.{codes}
use Rattle.text_lines.proofs.PutPieces.{printed, then_printed, refused}
use Rattle.mtx_io.proofs.printing.put_value.Goals as goal

pub returns-in_err-put_number : goal.returns-in_err-put_number
returns-in_err-put_number g c =
    refused c.from_residual.result c.in_err-put_number.field-0.0 _ _ _ (codes "\n") c.from_residual.ensures.1 c.in_err-put_number.ensures

pub returns : goal.returns
returns g c = then_printed _ _ _ _ _ (codes "\n") c.in_ok-put_number.ensures
    (printed _ _ _ _ c.put_all.ensures.whole c.put_all.ensures.part)
