use Rattle.kernel_code.specs.declared.syntax.Arr.{Arr}
use Rattle.kernel_code.specs.declared.syntax.KExpr.{KExpr}
use Rattle.kernel_read.proofs.Parts.{none_behind, ok_behind}
use Rattle.kernel_read.proofs.StatementForms.{arguments_text, OneFits}
use Rattle.kernel_read.proofs.statements.call_at.Goals as goal

pub returns-in-None : goal.returns-in-None
returns-in-None c = none_behind (Arr × KExpr) arguments_text OneFits c.args.line.now c.args.at c.args.before.now c.in-None.ensures

pub returns-in-Some : goal.returns-in-Some
returns-in-Some c =
    ok_behind (Arr × KExpr) arguments_text OneFits c.args.line.now c.args.at c.args.before.now c.in-Some.at c.in-Some.ensures
    c.arguments_at.result c.arguments_at.ensures
