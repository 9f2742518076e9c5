use Rattle.std.specs.Prelude.{◌++◌}
use Rattle.kernel_code.specs.declared.syntax.Arr.{Arr}
use Rattle.kernel_print.specs.ArrayNames.{HasWords}
use Rattle.kernel_print.specs.Text.{array_text}
use Rattle.kernel_read.proofs.Parts.{none_behind, none_reads, reads_behind}
use Rattle.kernel_read.proofs.exprs.array_between.Goals as goal

pub returns-in_err-at : goal.returns-in_err-at
returns-in_err-at c =
    none_reads Arr (λ a. c.args.before.now ++ (array_text a ++ c.args.after.now)) HasWords c.args.line.now c.args.at
    c.from_residual.result c.from_residual.ensures
    (none_behind Arr (λ a. array_text a ++ c.args.after.now) HasWords c.args.line.now c.args.at c.args.before.now c.in_err-at.ensures)

pub returns : goal.returns
returns c =
    reads_behind Arr (λ a. array_text a ++ c.args.after.now) HasWords c.args.line.now c.args.at c.args.before.now c.in_ok-at.at
    c.in_ok-at.ensures c.array_then.result c.array_then.ensures
