use Rattle.std.proofs.Common.{◌∙◌, sym, subst}
use Rattle.loop_flags.specs.Liveness.{StaysIn}
use Rattle.loop_flags.proofs.LiveLaws.{stays_sides, stays_first, stays_second, stays_neg}
use Rattle.loop_flags.proofs.staying.+stays_in.Goals as goal

pub returns-then-stays_in : goal.returns-then-stays_in
returns-then-stays_in t c = λ z.
    let k = c.args.access in
    subst (StaysIn k) (sym c.in-Binary.is) (stays_first k c.in-Binary.operator c.in-Binary.first c.in-Binary.second
    (sym c.is_product.ensures ∙ c.if-is_product.true) (subst (StaysIn k) c.get.ensures (c.stays_in.ensures z)))

pub returns-else-stays_in : goal.returns-else-stays_in
returns-else-stays_in t c = λ z.
    let k = c.args.access in
    subst (StaysIn k) (sym c.in-Binary.is) (stays_second k c.in-Binary.operator c.in-Binary.first c.in-Binary.second
    (sym c.is_product.ensures ∙ c.if-is_product.true)
    (subst (StaysIn k) c.get-else-stays_in.ensures (c.stays_in-else-stays_in.ensures z)))

pub returns-then-stays_in-2 : goal.returns-then-stays_in-2
returns-then-stays_in-2 t c = λ z.
    let k = c.args.access in
    subst (StaysIn k) (sym c.in-Binary.is)
    (stays_sides k c.in-Binary.operator c.in-Binary.first c.in-Binary.second (sym c.is_product.ensures ∙ c.if-is_product.false)
    (subst (StaysIn k) c.get-in-Binary.ensures (c.stays_in-in-Binary.ensures c.if-stays_in-2.true))
    (subst (StaysIn k) c.get-then-stays_in-2.ensures (c.stays_in-then-stays_in-2.ensures z)))

pub returns-in-Neg : goal.returns-in-Neg
returns-in-Neg t c = λ z.
    let k = c.args.access in
    subst (StaysIn k) (sym c.in-Neg.is) (stays_neg k c.in-Neg.inner
    (subst (StaysIn k) c.get-in-Neg.ensures (c.stays_in-in-Neg.ensures z)))
