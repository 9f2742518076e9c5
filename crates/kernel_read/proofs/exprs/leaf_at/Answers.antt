use Rattle.kernel_code.specs.declared.syntax.KExpr.{KExpr}
use Rattle.kernel_print.specs.Text.{expr_text}
use Rattle.kernel_read.specs.Reading.{IsLeaf}
use Rattle.kernel_read.proofs.Forms.{no_leaf}
use Rattle.kernel_read.proofs.Parts.{none_reads}
use Rattle.kernel_read.proofs.exprs.leaf_at.Goals as goal

pub returns-in_err-array : goal.returns-in_err-array
returns-in_err-array c =
    none_reads KExpr expr_text IsLeaf c.args.line.now c.args.at c.from_residual.result c.from_residual.ensures
    (no_leaf c.args.line.now c.args.at c.in_default.ensures c.in_default-name_at.ensures c.in_err-array.ensures)
