use Rattle.std.proofs.Common.{refl, ap}
use Rattle.kernel_code.specs.declared.syntax.Op.TheVariants as op
use Rattle.kernel_code.specs.declared.syntax.KExpr.{Num, Var}
use Rattle.resolved_code.specs.Erase.{erase_value}
use Rattle.kernel_interpreter.specs.Store.{state_of}
use Rattle.kernel_interpreter.proofs.Operators.{counts_both, least_of_both}
use Rattle.kernel_interpreter.proofs.operands.value_at.Goals as goal

pub returns-in-AddNumber : goal.returns-in-AddNumber
returns-in-AddNumber c =
    let s = c.in-AddNumber in
    counts_both op.Add (λ x y. refl) (Var s.x) (Num s.n) _ (state_of c.args.machine.now) _ _ _ c.applied.ensures
    c.slot-in-AddNumber.ensures refl (ap erase_value s.is)

pub returns-in-Add : goal.returns-in-Add
returns-in-Add c =
    let s = c.in-Add in
    counts_both op.Add (λ x y. refl) (Var s.x) (Var s.y) _ (state_of c.args.machine.now) _ _ _ c.applied-in-Add.ensures
    c.slot-in-Add.ensures c.slot-in-Add-2.ensures (ap erase_value s.is)

pub returns-in-LessNumber : goal.returns-in-LessNumber
returns-in-LessNumber c =
    let s = c.in-LessNumber in
    counts_both op.Less (λ x y. refl) (Var s.x) (Num s.n) _ (state_of c.args.machine.now) _ _ _ c.applied-in-LessNumber.ensures
    c.slot-in-LessNumber.ensures refl (ap erase_value s.is)

pub returns-in-Less : goal.returns-in-Less
returns-in-Less c =
    let s = c.in-Less in
    counts_both op.Less (λ x y. refl) (Var s.x) (Var s.y) _ (state_of c.args.machine.now) _ _ _ c.applied-in-Less.ensures
    c.slot-in-Less.ensures c.slot-in-Less-2.ensures (ap erase_value s.is)

pub returns-in-Equal : goal.returns-in-Equal
returns-in-Equal c =
    let s = c.in-Equal in
    counts_both op.Equal (λ x y. refl) (Var s.x) (Var s.y) _ (state_of c.args.machine.now) _ _ _ c.applied-in-Equal.ensures
    c.slot-in-Equal.ensures c.slot-in-Equal-2.ensures (ap erase_value s.is)

pub returns-in-Least : goal.returns-in-Least
returns-in-Least c =
    let s = c.in-Least in
    least_of_both (Var s.x) (Var s.y) _ (state_of c.args.machine.now) _ _ _ c.least_operand.ensures c.slot-in-Least.ensures
    c.slot-in-Least-2.ensures (ap erase_value s.is)
