use Rattle.std.specs.Prelude.{◌+◌}
use Rattle.std.proofs.Common.{◌∙◌, sym, ap, arith}
use Rattle.index_notation.specs.declared.syntax.NestedSum.{NestedSum}
use Rattle.lowering.specs.Seeking.{has_access}
use Rattle.lowering.specs.Sums.{through}
use Rattle.lowering.proofs.Through.{found_so, sum_read}
use Rattle.lowering.proofs.sums.+stands_through.Goals as goal

pub returns-then-stands_through : goal.returns-then-stands_through
returns-then-stands_through t c =
    let s = c.args.statement.now in
    let n = c.loop-number.number in
    sym (found_so s c.args.limit n (has_access c.args.expr.now) c.args.access (omega (arith, c.loop-number-test.true))
    (ap (λ i. has_access c.args.expr.now (i + n)) (sym c.first_sum.ensures.is) ∙ sym c.has_access.ensures ∙ c.if-has_access.true)
    (ap (λ (x : NestedSum). through s n (has_access x.inside) c.args.access)
    (sym (sum_read s n c.index-as_slice-number.result c.as_slice.result.now c.as_slice.ensures c.index-as_slice-number.is (omega
    (arith, c.loop-number-test.true, c.requires.limit))))
    ∙ sym c.stands_through.ensures ∙ c.if-stands_through.true))
