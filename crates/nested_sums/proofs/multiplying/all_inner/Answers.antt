use Rattle.std.specs.Prelude.{◌≡◌, ℕ, ◌+◌, length}
use Rattle.std.proofs.Common.{◌∙◌, sym, ap, arith}
use Rattle.nested_sums.specs.Inner.{is_inner}
use Rattle.nested_sums.proofs.Standings.{all_more, all_fails}
use Rattle.nested_sums.proofs.multiplying.all_inner.Goals as goal

pub returns-then-not-inner : goal.returns-then-not-inner
returns-then-not-inner c =
    let s = c.args.statement.now in
    let sum : ℕ = c.loop-sum.sum in
    sym (all_fails (is_inner s c.args.order.now) 0 (length s.sums) sum (omega arith) (omega arith)
    (sym c.inner.ensures ∙ c.if-not-inner.true))

pub loop-sum-preserved : goal.loop-sum-preserved
loop-sum-preserved c =
    let s = c.args.statement.now in
    let sum : ℕ = c.loop-sum.sum in
    let here : 0 + sum ≡ sum = omega arith in
    all_more (is_inner s c.args.order.now) 0 sum c.loop-sum.invariant
    (ap (is_inner s c.args.order.now) here ∙ sym c.inner.ensures ∙ c.if-not-inner.false)
