use Rattle.std.specs.Prelude.{ℕ, ◌++◌, codes, refl}
use Rattle.std.specs.Fmt.{decimal}
use Rattle.kernel_code.specs.declared.syntax.KExpr.{KExpr}
use Rattle.kernel_print.specs.ArrayNames.{IsWord}
use Rattle.kernel_print.specs.Text.{expr_text}
use Rattle.kernel_read.specs.Reading.{HaveWords}
use Rattle.kernel_read.proofs.Parts.{none_second}
use Rattle.kernel_read.proofs.Standing.{tells_behind, tells_numbers}
use Rattle.kernel_read.proofs.StatementForms.{values_text, combined_text}
use Rattle.kernel_read.proofs.StatementForms.{combining_plain}
use Rattle.kernel_read.proofs.statements.combined_at.Goals as goal

pub returns-in-None : goal.returns-in-None
returns-in-None c =
    let o = c.args.op in
    none_second ℕ (KExpr × KExpr) (λ n. codes "x" ++ decimal n) (values_text o) IsWord HaveWords c.args.line.now c.args.at
    (combined_text o) (tells_behind ℕ decimal IsWord (codes "x") tells_numbers) c.in-Some.variable c.in-Some.at c.in-Some.ensures
    (rw c.combining.ensures at (rw c.in-None.is at c.in_ok-values.ensures))
    (λ e rest. combining_plain o (expr_text e.0 ++ (codes ", " ++ (expr_text e.1 ++ codes ");\n"))) rest) (λ p. refl)
