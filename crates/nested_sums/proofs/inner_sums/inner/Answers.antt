use Rattle.std.specs.Prelude.{◌≡◌, length, ℕ, ◌+◌, Bool, Some, slice_get}
use Rattle.std.proofs.Common.{◌∙◌, sym, ap, arith, get_or}
use Rattle.nested_sums.specs.Inner.{Standing, standing_or_none, standings, sum_standing}
use Rattle.nested_sums.proofs.Standings.{standing_whole, all_more, all_fails, get_is, not_is_true, not_is_false}
use Rattle.nested_sums.proofs.inner_sums.inner.Goals as goal

pub returns-then-not-sum_standing : goal.returns-then-not-sum_standing
returns-then-not-sum_standing c =
    let s = c.args.statement.now in
    let sum = c.index-as_slice-sum.result in
    let var : ℕ = c.loop-var.var in
    let test : ℕ → Bool = λ v. (standing_or_none (slice_get (standings s s.sums c.args.order.now v)
    (length s.accesses + c.args.sum))).fits in
    let at : slice_get s.sums c.args.sum ≡ Some sum =
    get_is s.sums c.args.sum sum c.requires (c.index-as_slice-sum.is ∙ ap (λ l. get_or l c.args.sum sum) c.as_slice.ensures) in
    let fits : test var ≡ c.sum_standing.result.fits =
    ap (λ (x : Standing). x.fits) (standing_whole s c.args.order.now var c.args.sum sum at
    ∙ ap (sum_standing c.args.order.now var sum.var) (sym c.expr_standing-inside.ensures) ∙ sym c.sum_standing.ensures) in
    sym (all_fails test 0 (length s.vars) var (omega arith) (omega arith)
    (fits ∙ not_is_true c.sum_standing.result.fits c.if-not-sum_standing.true))

pub loop-var-preserved : goal.loop-var-preserved
loop-var-preserved c =
    let s = c.args.statement.now in
    let sum = c.index-as_slice-sum.result in
    let var : ℕ = c.loop-var.var in
    let test : ℕ → Bool = λ v. (standing_or_none (slice_get (standings s s.sums c.args.order.now v)
    (length s.accesses + c.args.sum))).fits in
    let at : slice_get s.sums c.args.sum ≡ Some sum =
    get_is s.sums c.args.sum sum c.requires (c.index-as_slice-sum.is ∙ ap (λ l. get_or l c.args.sum sum) c.as_slice.ensures) in
    let fits : test var ≡ c.sum_standing.result.fits =
    ap (λ (x : Standing). x.fits) (standing_whole s c.args.order.now var c.args.sum sum at
    ∙ ap (sum_standing c.args.order.now var sum.var) (sym c.expr_standing-inside.ensures) ∙ sym c.sum_standing.ensures) in
    let here : 0 + var ≡ var = omega arith in
    all_more test 0 var c.loop-var.invariant (ap test here ∙ fits ∙ not_is_false c.sum_standing.result.fits c.if-not-sum_standing.false)
