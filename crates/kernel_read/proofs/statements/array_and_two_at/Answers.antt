use Rattle.std.specs.Prelude.{◌++◌, refl}
use Rattle.kernel_code.specs.declared.syntax.Arr.{Arr}
use Rattle.kernel_code.specs.declared.syntax.KExpr.{KExpr}
use Rattle.kernel_print.specs.ArrayNames.{HasWords}
use Rattle.kernel_print.specs.Text.{array_text, expr_text}
use Rattle.kernel_print.proofs.ArrayNames.{names_tell_arrays}
use Rattle.kernel_read.specs.Reading.{HaveWords}
use Rattle.kernel_read.proofs.Parts.{none_second}
use Rattle.kernel_read.proofs.Plain.{plain_some, plain_starts}
use Rattle.kernel_read.proofs.StatementForms.{pair_text, two_text}
use Rattle.kernel_read.proofs.statements.array_and_two_at.Goals as goal

pub pair_at-requires-clause-some : goal.pair_at-requires-clause-some
pair_at-requires-clause-some c = plain_some c.args.before.now c.requires.first

pub returns-in-None : goal.returns-in-None
returns-in-None c =
    let before = c.args.before.now in
    let between = c.args.between.now in
    let after = c.args.after.now in
    none_second Arr (KExpr × KExpr) array_text (pair_text before between after) HasWords HaveWords c.args.line.now c.args.at
    (two_text before between after) names_tell_arrays c.in-Some.array c.in-Some.at c.in-Some.ensures
    (rw c.in-None.is at c.in_ok-pair.ensures)
    (λ e rest. plain_starts before (expr_text e.0 ++ (between ++ (expr_text e.1 ++ after))) rest c.requires.first) (λ p. refl)
