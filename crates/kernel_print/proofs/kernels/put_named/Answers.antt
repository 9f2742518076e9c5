use Rattle.text_lines.proofs.PutPieces.{printed, then_printed, refused}
use Rattle.kernel_print.proofs.kernels.put_named.Goals as goal

pub returns-in_err-put_all : goal.returns-in_err-put_all
returns-in_err-put_all g c =
    refused c.from_residual.result c.in_err-put_all.field-0.0 _ _ _ _ c.from_residual.ensures.1 c.in_err-put_all.ensures.part

pub returns-in_err-put_all-2 : goal.returns-in_err-put_all-2
returns-in_err-put_all-2 g c =
    then_printed _ _ _ _ _ _ c.in_ok-put_all.ensures.whole
    (refused c.from_residual-in_err-put_all-2.result c.in_err-put_all-2.field-0.0 _ _ _ _ c.from_residual-in_err-put_all-2.ensures.1
    c.in_err-put_all-2.ensures.part)

pub returns : goal.returns
returns g c = then_printed _ _ _ _ _ _ c.in_ok-put_all.ensures.whole
    (then_printed _ _ _ _ _ _ c.in_ok-put_all-2.ensures.whole (printed _ _ _ _ c.put_all-3.ensures.whole c.put_all-3.ensures.part))
