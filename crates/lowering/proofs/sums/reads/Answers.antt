use Rattle.std.specs.Prelude.{◌+◌}
use Rattle.std.proofs.Common.{◌∙◌, sym, ap, arith}
use Rattle.index_notation.specs.declared.syntax.NestedSum.{NestedSum}
use Rattle.lowering.specs.Seeking.{has_access, uses}
use Rattle.lowering.specs.Sums.{through}
use Rattle.lowering.proofs.Through.{found_so, sum_read}
use Rattle.lowering.proofs.sums.reads.Goals as goal

pub returns-then-stands_through : goal.returns-then-stands_through
returns-then-stands_through c =
    let s = c.args.statement.now in
    let n = c.loop-number.number in
    sym (found_so s c.args.limit n (uses c.args.tree.now) c.args.access (omega (arith, c.loop-number-test.true))
    (ap (λ i. uses c.args.tree.now (i + n)) (sym c.first_sum.ensures.is) ∙ sym c.uses.ensures ∙ c.if-uses.true)
    (ap (λ (x : NestedSum). through s n (has_access x.inside) c.args.access)
    (sym (sum_read s n c.index-as_slice-number.result c.as_slice.result.now c.as_slice.ensures c.index-as_slice-number.is (omega
    (arith, c.loop-number-test.true, c.requires.limit))))
    ∙ sym c.stands_through.ensures ∙ c.if-stands_through.true))
