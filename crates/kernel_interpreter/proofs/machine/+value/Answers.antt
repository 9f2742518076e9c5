use denote.Hole.Carrier.{hidden}
use Rattle.std.proofs.Common.{rules, ◌≡◌, ◌∙◌, refl, sym, ap, arith, ℕ, Option, Some, None, min}
use Rattle.kernel_code.specs.declared.syntax.Op.{Op}
use Rattle.kernel_code.specs.declared.syntax.Op.TheVariants as op
use Rattle.kernel_code.specs.declared.syntax.KExpr.TheBlock.{hidden-the_row-KExpr-0}
use Rattle.kernel_code.specs.Meaning.{value, apply, apply_both, apply_each}
use Rattle.kernel_interpreter.specs.Store.{state_of}
use Rattle.kernel_interpreter.proofs.Heights.{height, height_at, height_bin, height_min, height_width}
use Rattle.kernel_interpreter.proofs.machine.+value.Goals as goal

first_is_stuck : (o : Op) (y : Option ℕ) → apply_both o None y ≡ None
first_is_stuck op.And y = refl
first_is_stuck op.Or y = refl
first_is_stuck _ y = refl

pub value_of-returns-in-At : goal.value_of-returns-in-At
unfolding hidden-the_row-KExpr-0 hidden
value_of-returns-in-At t c = rw c.in-At.is (search rules)

pub value_of-returns-in_err-x-in-Bin : goal.value_of-returns-in_err-x-in-Bin
unfolding hidden-the_row-KExpr-0 hidden
value_of-returns-in_err-x-in-Bin t c =
    let st = state_of c.args.machine.now in
    let none = c.in_err-x-in-Bin.was in
    let x : value c.in-Bin.a st ≡ None = cc in
    rw c.in-Bin.is (c.from_residual.ensures ∙ sym (ap (λ v. apply_both c.in-Bin.op v (value c.in-Bin.b st)) x
    ∙ first_is_stuck c.in-Bin.op (value c.in-Bin.b st)))

pub value_of-returns-in-Some : goal.value_of-returns-in-Some
unfolding hidden-the_row-KExpr-0 hidden
value_of-returns-in-Some t c =
    let st = state_of c.args.machine.now in
    let some = c.in_ok-x-in-Bin.was in
    let x : value c.in-Bin.a st ≡ Some c.in_ok-x-in-Bin.x = cc in
    rw c.in-Bin.is (sym (ap (λ v. apply_both c.in-Bin.op v (value c.in-Bin.b st)) x ∙ c.in-Some.ensures (value c.in-Bin.b st)))

pub value_of-returns-in_err-y-in-Bin : goal.value_of-returns-in_err-y-in-Bin
unfolding hidden-the_row-KExpr-0 hidden
value_of-returns-in_err-y-in-Bin t c =
    let st = state_of c.args.machine.now in
    let some = c.in_ok-x-in-Bin.was in
    let none = c.in_err-y-in-Bin.was in
    let x : value c.in-Bin.a st ≡ Some c.in_ok-x-in-Bin.x = cc in
    let y : value c.in-Bin.b st ≡ None = cc in
    rw c.in-Bin.is (c.from_residual-in_err-y-in-Bin.ensures ∙ sym (ap (λ v. apply_both c.in-Bin.op v (value c.in-Bin.b st)) x
    ∙ c.in_default.ensures (value c.in-Bin.b st) ∙ ap (apply_each (apply c.in-Bin.op) (Some c.in_ok-x-in-Bin.x)) y))

pub value_of-returns-in_ok-y-in-Bin : goal.value_of-returns-in_ok-y-in-Bin
unfolding hidden-the_row-KExpr-0 hidden
value_of-returns-in_ok-y-in-Bin t c =
    let st = state_of c.args.machine.now in
    let some = c.in_ok-x-in-Bin.was in
    let other = c.in_ok-y-in-Bin.was in
    let x : value c.in-Bin.a st ≡ Some c.in_ok-x-in-Bin.x = cc in
    let y : value c.in-Bin.b st ≡ Some c.in_ok-y-in-Bin.y = cc in
    rw c.in-Bin.is (ap Some c.apply_to_words.ensures ∙ sym (ap (λ v. apply_both c.in-Bin.op v (value c.in-Bin.b st)) x
    ∙ c.in_default.ensures (value c.in-Bin.b st) ∙ ap (apply_each (apply c.in-Bin.op) (Some c.in_ok-x-in-Bin.x)) y))

pub value_of-returns-in-Min : goal.value_of-returns-in-Min
unfolding hidden-the_row-KExpr-0 hidden
value_of-returns-in-Min t c =
    let st = state_of c.args.machine.now in
    let x : c.operand-x.result ≡ value c.in-Min.a st = cc in
    let y : c.operand-y.result ≡ value c.in-Min.b st = cc in
    rw c.in-Min.is (c.least_operand.ensures ∙ ap (λ v. apply_each min v c.operand-y.result) x
    ∙ ap (apply_each min (value c.in-Min.a st)) y)

pub value_of-returns-in-Width : goal.value_of-returns-in-Width
unfolding hidden-the_row-KExpr-0 hidden
value_of-returns-in-Width t c = rw c.in-Width.is (search rules)

pub value_of-operand-i-requires : goal.value_of-operand-i-requires
value_of-operand-i-requires t c =
    let here = ap height c.get.ensures in
    let whole = ap height c.in-At.is in
    let parts = height_at c.in-At.a c.in-At.i in
    omega arith

pub value_of-operand-requires : goal.value_of-operand-requires
value_of-operand-requires t c =
    let here = ap height c.get-in-Bin.ensures in
    let whole = ap height c.in-Bin.is in
    let parts = height_bin c.in-Bin.op c.in-Bin.a c.in-Bin.b in
    omega arith

pub value_of-operand-requires-in-Bin : goal.value_of-operand-requires-in-Bin
value_of-operand-requires-in-Bin t c =
    let here = ap height c.get-in-Bin-2.ensures in
    let whole = ap height c.in-Bin.is in
    let parts = height_bin c.in-Bin.op c.in-Bin.a c.in-Bin.b in
    omega arith

pub value_of-operand-x-requires : goal.value_of-operand-x-requires
value_of-operand-x-requires t c =
    let here = ap height c.get-in-Min.ensures in
    let whole = ap height c.in-Min.is in
    let parts = height_min c.in-Min.a c.in-Min.b in
    omega arith

pub value_of-operand-y-requires : goal.value_of-operand-y-requires
value_of-operand-y-requires t c =
    let here = ap height c.get-in-Min-2.ensures in
    let whole = ap height c.in-Min.is in
    let parts = height_min c.in-Min.a c.in-Min.b in
    omega arith

pub value_of-operand-x-requires-in-Width : goal.value_of-operand-x-requires-in-Width
value_of-operand-x-requires-in-Width t c =
    let here = ap height c.get-in-Width.ensures in
    let whole = ap height c.in-Width.is in
    let parts = height_width c.in-Width.e in
    omega arith
