use Rattle.std.specs.Prelude.{◌++◌, codes}
use Rattle.std.proofs.Common.{ap}
use Rattle.kernel_print.specs.Text.{statements_text}
use Rattle.text_lines.proofs.PutPieces.{printed, refused, retold, then_printed}
use Rattle.kernel_print.proofs.kernels.put_body.Goals as goal

pub returns-in_err-put_statements : goal.returns-in_err-put_statements
returns-in_err-put_statements g c =
    retold _ _ _ _ _ (ap (λ body. statements_text 1 body ++ codes "}\n") c.as_slice.ensures)
    (refused c.from_residual.result c.in_err-put_statements.field-0.0 _ _ (statements_text 1 c.as_slice.result.now) (codes "}\n")
    c.from_residual.ensures.1 c.in_err-put_statements.ensures)

pub returns : goal.returns
returns g c =
    let end = c.put_all in
    retold end.result _ _ _ _ (ap (λ body. statements_text 1 body ++ codes "}\n") c.as_slice.ensures)
    (then_printed end.result _ _ _ (statements_text 1 c.as_slice.result.now) (codes "}\n") c.in_ok-put_statements.ensures
    (printed end.result _ _ (codes "}\n") end.ensures.whole end.ensures.part))
