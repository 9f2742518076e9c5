use Rattle.std.specs.Prelude.{List, ℕ, ◌++◌, refl}
use Rattle.kernel_code.specs.declared.syntax.Arr.{Arr}
use Rattle.kernel_print.specs.ArrayNames.{HasWords}
use Rattle.kernel_print.specs.Text.{array_text}
use Rattle.kernel_print.proofs.ArrayNames.{names_tell_arrays}
use Rattle.kernel_read.proofs.Parts.{none_after, none_before, none_reads, found_after}
use Rattle.kernel_read.proofs.Plain.{plain_end}
use Rattle.kernel_read.proofs.exprs.array_then.Goals as goal

pub returns-in_err-array : goal.returns-in_err-array
returns-in_err-array c =
    let after = c.args.after.now in
    let S : Arr → List ℕ = λ a. array_text a ++ after in
    none_reads Arr S HasWords c.args.line.now c.args.at c.from_residual.result c.from_residual.ensures
    (none_before Arr array_text HasWords c.args.line.now c.args.at S after c.in_err-array.ensures (plain_end after c.requires.plain)
    (λ a. refl))

pub returns-in_err-at : goal.returns-in_err-at
returns-in_err-at c =
    let after = c.args.after.now in
    let S : Arr → List ℕ = λ a. array_text a ++ after in
    none_reads Arr S HasWords c.args.line.now c.args.at c.from_residual-in_err-at.result c.from_residual-in_err-at.ensures
    (none_after Arr array_text HasWords c.args.line.now c.args.at S after names_tell_arrays c.in_ok-array.array c.in_ok-array.at
    c.in_ok-array.ensures c.in_err-at.ensures (plain_end after c.requires.plain) (λ a. refl))

pub returns : goal.returns
returns c =
    let after = c.args.after.now in
    let S : Arr → List ℕ = λ a. array_text a ++ after in
    found_after Arr array_text HasWords c.args.line.now c.args.at S after c.in_ok-array.array c.in_ok-array.at c.in_ok-at.at
    c.in_ok-array.ensures c.in_ok-at.ensures (λ a. refl)
