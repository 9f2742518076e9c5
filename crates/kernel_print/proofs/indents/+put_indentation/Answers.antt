use Rattle.std.specs.Prelude.{codes}
use Rattle.kernel_print.specs.Text.{depth_of, indentation}
use Rattle.text_lines.proofs.PutPieces.{then_printed, refused}
use Rattle.kernel_print.proofs.indents.+put_indentation.Goals as goal

pub returns-in_err-put_all-in-Within : goal.returns-in_err-put_all-in-Within
returns-in_err-put_all-in-Within g t c =
    rw c.in-Within.is (refused c.from_residual.result c.in_err-put_all-in-Within.field-0.0 _ _ (codes "  ")
    (indentation (depth_of c.in-Within.outer.now)) c.from_residual.ensures.1 c.in_err-put_all-in-Within.ensures.part)

pub returns-in_ok-put_all-in-Within : goal.returns-in_ok-put_all-in-Within
returns-in_ok-put_all-in-Within g t c =
    rw c.in-Within.is (then_printed _ _ _ _ (codes "  ")
    (indentation (depth_of c.in-Within.outer.now)) c.in_ok-put_all-in-Within.ensures.whole c.put_indentation.ensures)
