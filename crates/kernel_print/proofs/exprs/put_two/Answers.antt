use Rattle.text_lines.proofs.PutPieces.{then_printed, refused}
use Rattle.kernel_print.proofs.exprs.put_two.Goals as goal

pub returns-in_err-put_all : goal.returns-in_err-put_all
returns-in_err-put_all g c =
    refused c.from_residual.result c.in_err-put_all.field-0.0 _ _ _ _ c.from_residual.ensures.1 c.in_err-put_all.ensures.part

pub returns-in_err-put_expr : goal.returns-in_err-put_expr
returns-in_err-put_expr g c =
    then_printed _ _ _ _ _ _ c.in_ok-put_all.ensures.whole
    (refused c.from_residual-in_err-put_expr.result c.in_err-put_expr.field-0.0 _ _ _ _ c.from_residual-in_err-put_expr.ensures.1
    c.in_err-put_expr.ensures)

pub returns : goal.returns
returns g c = then_printed _ _ _ _ _ _ c.in_ok-put_all.ensures.whole (then_printed _ _ _ _ _ _ c.in_ok-put_expr.ensures c.put_one.ensures)
