use Rattle.std.specs.Prelude.{List, ℕ, ◌++◌, codes, refl}
use Rattle.kernel_code.specs.declared.syntax.Arr.{Arr}
use Rattle.kernel_code.specs.declared.syntax.KExpr.{KExpr}
use Rattle.kernel_print.specs.ArrayNames.{HasWords}
use Rattle.kernel_print.specs.ExprTexts.{ExprHasWords}
use Rattle.kernel_print.specs.Text.{array_text, expr_text}
use Rattle.kernel_print.proofs.ArrayNames.{names_tell_arrays}
use Rattle.kernel_read.proofs.Parts.{none_second}
use Rattle.kernel_read.proofs.StatementForms.{arguments_text}
use Rattle.kernel_read.proofs.statements.arguments_at.Goals as goal

pub returns-in-None : goal.returns-in-None
returns-in-None c =
    let U : KExpr → List ℕ = λ e. codes ", " ++ (expr_text e ++ codes ");\n") in
    none_second Arr KExpr array_text U HasWords ExprHasWords c.args.line.now c.args.at arguments_text names_tell_arrays c.in-Some.array
    c.in-Some.at c.in-Some.ensures (rw c.in-None.is at c.in_ok-e.ensures) (λ e rest. refl) (λ p. refl)
