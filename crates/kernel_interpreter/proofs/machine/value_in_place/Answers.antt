use denote.Hole.Carrier.{hidden}
use Rattle.std.proofs.Common.{◌≡◌, ◌∙◌, sym, ap, Some}
use Rattle.kernel_code.specs.declared.syntax.KExpr.TheBlock.{hidden-the_row-KExpr-0}
use Rattle.kernel_code.specs.Meaning.{value, apply_both}
use Rattle.kernel_interpreter.specs.Store.{state_of}
use Rattle.kernel_interpreter.proofs.Operators.{both_there}
use Rattle.kernel_interpreter.proofs.machine.value_in_place.Goals as goal

pub returns-in-Some-Some : goal.returns-in-Some-Some
unfolding hidden-the_row-KExpr-0 hidden
returns-in-Some-Some c =
    let st = state_of c.args.machine.now in
    let first = c.in-Some-Some.ensures in
    let second = c.in-Some-Some.ensures' in
    let x : value c.in-Bin.a st ≡ Some c.in-Some-Some.x = cc in
    let y : value c.in-Bin.b st ≡ Some c.in-Some-Some.y = cc in
    rw c.in-Bin.is (ap Some c.apply_to_words.ensures ∙ sym (ap (λ v. apply_both c.in-Bin.op v (value c.in-Bin.b st)) x
    ∙ ap (apply_both c.in-Bin.op (Some c.in-Some-Some.x)) y ∙ both_there c.in-Bin.op c.in-Some-Some.x c.in-Some-Some.y))
