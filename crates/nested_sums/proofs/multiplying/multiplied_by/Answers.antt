use Rattle.std.specs.Prelude.{◌≡◌}
use Rattle.std.proofs.Common.{sym, subst}
use Rattle.std.proofs.lemmas.Result.{IfOk-weaker}
use Rattle.nested_sums.specs.Multiplied.{multiplied, KeepsValue, HasInnerSums, KeepsNoMinus}
use Rattle.nested_sums.specs.Support.{KeepsSupport}
use Rattle.nested_sums.proofs.MultipliedInner.{keeps_inner}
use Rattle.nested_sums.proofs.MultipliedMinus.{keeps_no_minus}
use Rattle.nested_sums.proofs.MultipliedSupport.{keeps_support}
use Rattle.nested_sums.proofs.MultipliedValue.{keeps_value}
use Rattle.nested_sums.proofs.multiplying.multiplied_by.Goals as goal

pub returns-clause-value : goal.returns-clause-value
returns-clause-value c =
    let one = c.args.one in
    let s = c.args.statement in
    let order = c.args.order.now in
    IfOk-weaker c.multiplied.result (λ out. out ≡ multiplied one s order) (KeepsValue one s)
    (λ out same. subst (KeepsValue one s) (sym same) (keeps_value one s order c.requires.numbered c.requires.clear)) c.multiplied.ensures

pub returns-clause-inner : goal.returns-clause-inner
returns-clause-inner c =
    let one = c.args.one in
    let s = c.args.statement in
    let order = c.args.order.now in
    IfOk-weaker c.multiplied.result (λ out. out ≡ multiplied one s order) (HasInnerSums order)
    (λ out same. subst (HasInnerSums order) (sym same) (keeps_inner one s order c.requires.numbered c.requires.clear)) c.multiplied.ensures

pub returns-clause-support : goal.returns-clause-support
returns-clause-support c =
    let one = c.args.one in
    let s = c.args.statement in
    let order = c.args.order.now in
    IfOk-weaker c.multiplied.result (λ out. out ≡ multiplied one s order) (KeepsSupport s)
    (λ out same. subst (KeepsSupport s) (sym same) (keeps_support one s order c.requires.numbered c.requires.clear)) c.multiplied.ensures

pub returns-clause-meant : goal.returns-clause-meant
returns-clause-meant c =
    let one = c.args.one in
    let s = c.args.statement in
    let order = c.args.order.now in
    IfOk-weaker c.multiplied.result (λ out. out ≡ multiplied one s order) (KeepsNoMinus s)
    (λ out same. subst (KeepsNoMinus s) (sym same) (keeps_no_minus one s order)) c.multiplied.ensures
