use Rattle.std.specs.Prelude.{List, ℕ, ◌++◌, codes, refl}
use Rattle.std.specs.Fmt.{decimal}
use Rattle.kernel_code.specs.declared.syntax.KExpr.{KExpr}
use Rattle.kernel_print.specs.ArrayNames.{IsWord}
use Rattle.kernel_print.specs.ExprTexts.{ExprHasWords}
use Rattle.kernel_print.specs.Text.{expr_text}
use Rattle.kernel_read.proofs.Parts.{none_second}
use Rattle.kernel_read.proofs.Standing.{tells_behind, tells_numbers}
use Rattle.kernel_read.proofs.StatementForms.{set_text}
use Rattle.kernel_read.proofs.statements.set_at.Goals as goal

pub returns-in-None : goal.returns-in-None
returns-in-None c =
    let U : KExpr → List ℕ = λ e. codes " = " ++ (expr_text e ++ codes ";\n") in
    none_second ℕ KExpr (λ n. codes "x" ++ decimal n) U IsWord ExprHasWords c.args.line.now c.args.at set_text
    (tells_behind ℕ decimal IsWord (codes "x") tells_numbers) c.in-Some.variable c.in-Some.at c.in-Some.ensures
    (rw c.in-None.is at c.in_ok-e.ensures) (λ e rest. refl) (λ p. refl)
