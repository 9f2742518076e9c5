use Rattle.std.proofs.Common.{refl, ap}
use Rattle.kernel_code.specs.declared.syntax.Op.TheVariants as op
use Rattle.kernel_code.specs.declared.syntax.KExpr.{Num, Var, At, Bin}
use Rattle.resolved_code.specs.Erase.{erase_value}
use Rattle.kernel_interpreter.specs.Store.{state_of}
use Rattle.kernel_interpreter.proofs.Operators.{counts_both, least_of_both, word_there}
use Rattle.kernel_interpreter.proofs.operands.value_apart.Goals as goal

pub returns-in-AddNumber : goal.returns-in-AddNumber
returns-in-AddNumber c =
    let s = c.in-AddNumber in
    counts_both op.Add (λ x y. refl) (Var s.x) (Num s.n) _ (state_of c.args.machine.now) _ _ _ c.applied.ensures
    c.slot-in-AddNumber.ensures refl (ap erase_value s.is)

pub returns-in-Add : goal.returns-in-Add
returns-in-Add c =
    let s = c.in-Add in
    counts_both op.Add (λ x y. refl) (Var s.x) (Var s.y) _ (state_of c.args.machine.now) _ _ _ c.applied-in-Add.ensures
    c.slot-in-Add.ensures c.slot-in-Add-2.ensures (ap erase_value s.is)

pub returns-in-LessNumber : goal.returns-in-LessNumber
returns-in-LessNumber c =
    let s = c.in-LessNumber in
    counts_both op.Less (λ x y. refl) (Var s.x) (Num s.n) _ (state_of c.args.machine.now) _ _ _ c.applied-in-LessNumber.ensures
    c.slot-in-LessNumber.ensures refl (ap erase_value s.is)

pub returns-in-Less : goal.returns-in-Less
returns-in-Less c =
    let s = c.in-Less in
    counts_both op.Less (λ x y. refl) (Var s.x) (Var s.y) _ (state_of c.args.machine.now) _ _ _ c.applied-in-Less.ensures
    c.slot-in-Less.ensures c.slot-in-Less-2.ensures (ap erase_value s.is)

pub returns-in-Equal : goal.returns-in-Equal
returns-in-Equal c =
    let s = c.in-Equal in
    counts_both op.Equal (λ x y. refl) (Var s.x) (Var s.y) _ (state_of c.args.machine.now) _ _ _ c.applied-in-Equal.ensures
    c.slot-in-Equal.ensures c.slot-in-Equal-2.ensures (ap erase_value s.is)

pub returns-in-Least : goal.returns-in-Least
returns-in-Least c =
    let s = c.in-Least in
    least_of_both (Var s.x) (Var s.y) _ (state_of c.args.machine.now) _ _ _ c.least_operand.ensures c.slot-in-Least.ensures
    c.slot-in-Least-2.ensures (ap erase_value s.is)

pub returns-in-Word : goal.returns-in-Word
returns-in-Word c =
    let s = c.in-Word in
    word_there s.a (Var s.x) _ (state_of c.args.machine.now) _ _ c.word.ensures c.slot-in-Word.ensures (ap erase_value s.is)

pub returns-in-WordAfter : goal.returns-in-WordAfter
returns-in-WordAfter c =
    let s = c.in-WordAfter in
    let st = state_of c.args.machine.now in
    let i = Bin op.Add (Var s.x) (Num s.n) in
    word_there s.a i _ st _ _ c.word-in-WordAfter.ensures
    (counts_both op.Add (λ x y. refl) (Var s.x) (Num s.n) i st _ _ _ c.applied-i.ensures c.slot-in-WordAfter.ensures refl refl)
    (ap erase_value s.is)

pub returns-in-WordOfWord : goal.returns-in-WordOfWord
returns-in-WordOfWord c =
    let s = c.in-WordOfWord in
    let st = state_of c.args.machine.now in
    let i = At s.b (Var s.x) in
    word_there s.a i _ st _ _ c.word-in-WordOfWord.ensures
    (word_there s.b (Var s.x) i st _ _ c.word-i.ensures c.slot-in-WordOfWord.ensures refl) (ap erase_value s.is)

pub returns-in-LessWord : goal.returns-in-LessWord
returns-in-LessWord c =
    let s = c.in-LessWord in
    let st = state_of c.args.machine.now in
    let w = At s.a (Num s.n) in
    counts_both op.Less (λ x y. refl) (Var s.x) w _ st _ _ _ c.applied-in-LessWord.ensures c.slot-in-LessWord.ensures
    (word_there s.a (Num s.n) w st _ _ c.word-word.ensures refl refl) (ap erase_value s.is)

pub returns-in-LessWordAfter : goal.returns-in-LessWordAfter
returns-in-LessWordAfter c =
    let s = c.in-LessWordAfter in
    let st = state_of c.args.machine.now in
    let i = Bin op.Add (Var s.y) (Num s.n) in
    let w = At s.a i in
    counts_both op.Less (λ x y. refl) (Var s.x) w _ st _ _ _ c.applied-in-LessWordAfter.ensures c.slot-in-LessWordAfter-2.ensures
    (word_there s.a i w st _ _ c.word-word-in-LessWordAfter.ensures
    (counts_both op.Add (λ x y. refl) (Var s.y) (Num s.n) i st _ _ _ c.applied-i-in-LessWordAfter.ensures
    c.slot-in-LessWordAfter.ensures refl refl) refl) (ap erase_value s.is)

pub returns-in-Product : goal.returns-in-Product
returns-in-Product c =
    let s = c.in-Product in
    let st = state_of c.args.machine.now in
    let v = At s.a (Var s.x) in
    let w = At s.b (Var s.y) in
    counts_both op.Mul (λ x y. refl) v w _ st _ _ _ c.applied-in-Product.ensures
    (word_there s.a (Var s.x) v st _ _ c.word-first.ensures c.slot-in-Product.ensures refl)
    (word_there s.b (Var s.y) w st _ _ c.word-second.ensures c.slot-in-Product-2.ensures refl) (ap erase_value s.is)

pub returns-in-ProductOfWord : goal.returns-in-ProductOfWord
returns-in-ProductOfWord c =
    let s = c.in-ProductOfWord in
    let st = state_of c.args.machine.now in
    let v = At s.a (Var s.x) in
    let i = At s.c (Var s.y) in
    let w = At s.b i in
    counts_both op.Mul (λ x y. refl) v w _ st _ _ _ c.applied-in-ProductOfWord.ensures
    (word_there s.a (Var s.x) v st _ _ c.word-first-in-ProductOfWord.ensures c.slot-in-ProductOfWord.ensures refl)
    (word_there s.b i w st _ _ c.word-second-in-ProductOfWord.ensures
    (word_there s.c (Var s.y) i st _ _ c.word-i-in-ProductOfWord.ensures c.slot-in-ProductOfWord-2.ensures refl) refl)
    (ap erase_value s.is)
