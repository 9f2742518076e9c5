use Rattle.std.specs.Prelude.{codes}
use Rattle.kernel_code.specs.declared.syntax.Arr.{Arr}
use Rattle.kernel_code.specs.declared.syntax.KExpr.{KExpr}
use Rattle.kernel_read.proofs.Parts.{ok_behind}
use Rattle.kernel_read.proofs.StatementForms.{two_text, TwoFits}
use Rattle.kernel_read.proofs.statements.extend_at.Goals as goal

pub returns-in-Some : goal.returns-in-Some
returns-in-Some c =
    ok_behind (Arr × (KExpr × KExpr)) (two_text (codes ", ") (codes ", ") (codes ");\n")) TwoFits c.args.line.now c.args.at
    (codes "extend(") c.in-Some.at c.in-Some.ensures c.array_and_two_at.result c.array_and_two_at.ensures
